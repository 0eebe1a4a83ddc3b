-- What is taken after an accepted header before the first line of a script: the rows of all slots,
-- each with its line feed, and the line `script`.
use Rattle.std.specs.Prelude.{◌≡◌, ◌⊎◌, ℕ, ◌+◌, Bool, List, ◌++◌, length, Option, Some, slice_get}
use Rattle.detector_graph.specs.declared.folded.Folded.{Folded}
use Rattle.surface_model.specs.Schedules.{Schedule}
use Rattle.surface_model.specs.Layout.{last_slot}
use Rattle.syndrome_source.specs.declared.error.RowError.{RowError}
use Rattle.syndrome_source.specs.declared.error.RowError.TheVariants as row
use Rattle.measure_map.specs.Placed.{defects_at, raws_at}
use Rattle.replay_model.specs.Scripts.{due_line}
use Rattle.script_reader.specs.Lines.{IsNotDue}
use Rattle.script_reader.specs.declared.error.ScriptError.{ScriptError}
use Rattle.script_reader.specs.declared.error.ScriptError.TheVariants as script
use Rattle.run_rounds.specs.Fed.{AreAllFed, AreUnfed}
use Rattle.replay_run.specs.declared.end.End.{End}
use Rattle.replay_run.specs.declared.end.End.TheVariants.{Complete, Row, Ended, ReadFault, Script}

-- the number of the line in which `script` is due
abbrev pub due_number : Schedule → ℕ
due_number s = s.rounds_line + 2 + last_slot s

-- these are the values of the detectors and observables of this slot
pub record IsFoldOf (s : Schedule) (rows : List (List Bool)) (t : ℕ) (folded : Folded) : Type
    0 where
  pub slot : folded.slot ≡ t
  pub defects : folded.defects ≡ defects_at s rows t
  pub raws : folded.raws ≡ raws_at s rows t

-- each slot has the values that the rows give it, in the order of the slots
pub record AreFolded (s : Schedule) (rows : List (List Bool)) (items : List Folded) : Type 0 where
  pub each : length items ≡ last_slot s + 1
  pub gives : (t : ℕ) (folded : Folded) → slice_get items t ≡ Some folded →
      IsFoldOf s rows t folded

-- how a replay ends where the rows, or the line `script`, can't be taken
abbrev pub end_of_rows : RowError → End
end_of_rows (row.Fault line kind) = Row line kind
end_of_rows (row.Ended line) = Ended line
end_of_rows row.ReadFault = ReadFault
end_of_rows row.Memory = Complete

abbrev pub end_of_due : ScriptError → End
end_of_due (script.Fault line) = Script line
end_of_due (script.Ended line) = Ended line
end_of_due script.ReadFault = ReadFault

-- what was taken in the line of this number, where the line `script` is due and wasn't taken
abbrev pub IsCutAt : ℕ → List ℕ → Option (List ℕ) → End → Type 0
IsCutAt number bytes left end = (error : ScriptError) × (end ≡ end_of_due error)
    × IsNotDue due_line number bytes left error

-- No script was begun: not all rows could be taken, or not the line after them
abbrev pub IsUnbegun : Schedule → List ℕ → Option (List ℕ) → List (List Bool) → End → Type 0
IsUnbegun s bytes left rows end =
    ((error : RowError) × (end ≡ end_of_rows error) × AreUnfed s bytes left rows error)
    ⊎ ((front : List ℕ) × (due : List ℕ) × (bytes ≡ front ++ due) × AreAllFed s front rows
    × IsCutAt (due_number s) due left end)
