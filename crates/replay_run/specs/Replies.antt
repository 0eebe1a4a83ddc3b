-- What a replay says: the text that it puts, by what it took after an accepted header.
use Rattle.std.specs.Prelude.{◌≡◌, ◌⊎◌, ℕ, ◌+◌, Bool, List, [], ◌++◌, length, Option, None, Some}
use Rattle.port_io.specs.Traffic.{IsAtEnd}
use Rattle.surface_model.specs.Schedules.{Schedule}
use Rattle.syndrome_source.specs.Rows.{kind_of}
use Rattle.window_model.specs.declared.GuessView.{GuessView}
use Rattle.window_model.specs.Decoder.{Task}
use Rattle.window_model.specs.Speculation.{Event, visible}
use Rattle.report_model.specs.Faults.{Fault, OfRow, Ended as EndedIn, Read, Script as OfScript}
use Rattle.report_model.specs.Outcomes.{output_of}
use Rattle.report_model.specs.Tasks.{labels_of, names_of, syndrome_of}
use Rattle.replay_model.specs.Scripts.{Complete as IsComplete, Whole, due_line, line_within, most_line_bytes, script_of, whole_lines}
use Rattle.replay_model.specs.Replays.{IsReplay, Stage}
use Rattle.script_reader.specs.Lines.{IsLine, IsTooLong}
use Rattle.run_rounds.specs.Fed.{AreAllFed}
use Rattle.replay_run.specs.Readings.{IsUnbegun, due_number}
use Rattle.replay_run.specs.declared.end.End.{End}
use Rattle.replay_run.specs.declared.end.End.TheVariants.{Complete, Row, Ended, ReadFault, Script}

-- what is replayed: a schedule, its task under a plan, how often a window may be given up and still
-- be claimed on a guess, and which guesses may be made
pub record Subject : Type 1 where
  pub schedule : Schedule
  pub task : Task
  pub retries : ℕ
  pub may_guess : GuessView → Bool → Type 0

-- the stage on which its scripts are played, with these rows
abbrev pub stage_on : Subject → List (List Bool) → Stage
stage_on r rows = record {
  task = r.task;
  retries = r.retries;
  may_guess = r.may_guess;
  syndrome = syndrome_of r.schedule rows;
  labels = labels_of r.schedule;
}

-- the fault that is reported
abbrev pub fault_at : End → Option Fault
fault_at Complete = None
fault_at (Row line kind) = Some (OfRow (kind_of kind) line)
fault_at (Ended line) = Some (EndedIn line)
fault_at ReadFault = Some Read
fault_at (Script line) = Some (OfScript line)

-- the text: what the lines of the script printed, and after it the log of what shows of the events,
-- the frames where all is done, the summary and the line of the fault
abbrev pub reply_of : Subject → List (List Bool) → (printed : List ℕ) → List Event →
    Option Fault → List ℕ
reply_of r rows printed events fault =
    printed ++ output_of r.task (syndrome_of r.schedule rows) (labels_of r.schedule)
    (names_of r.schedule) (visible r.task events) None fault

-- The last of these bytes is the last that a fault in this line asks for. Before it are whole lines
-- of commands, and of the line itself its line feed was taken, one byte too many, or all that the
-- input has.
pub record IsJudged (first : ℕ) (bytes : List ℕ) (left : Option (List ℕ)) (line : ℕ) : Type
    0 where
  pub lines : List ℕ
  pub last : List ℕ
  pub bytes_are : bytes ≡ lines ++ last
  pub sound : (script_of first lines).ending ≡ IsComplete
  pub number : line ≡ first + length (script_of first lines).commands
  pub one : IsTooLong last ⊎ ((text : List ℕ) × IsLine text last left)

-- the script of these bytes, whatever follows them, or where the input ended after them
abbrev pub IsReplayOf : Stage → ℕ → List ℕ → Option (List ℕ) → List Event → List ℕ → Option ℕ →
    Type 0
IsReplayOf stage first bytes left events printed fault =
    ((rest : List ℕ) →
    IsReplay stage (script_of first (bytes ++ rest)) first events printed fault)
    ⊎ (IsAtEnd left × IsReplay stage (script_of first bytes) first events printed fault)

-- these bytes end in a line that isn't whole, and isn't too long
abbrev pub HasLineBegun : List ℕ → Type 0
HasLineBegun bytes = (begun : List ℕ) × (bytes ≡ whole_lines bytes ++ begun)
    × (line_within most_line_bytes begun ≡ Whole begun [])

-- What was taken of a script, and what its lines did and printed: the input ended, a line is at
-- fault, or a take failed. Where it failed, only lines whose line feed was taken are done.
abbrev pub IsReplayedTo : Stage → ℕ → List ℕ → Option (List ℕ) → List Event → List ℕ → End →
    Type 0
IsReplayedTo stage first bytes left events printed Complete =
    IsAtEnd left × IsReplay stage (script_of first bytes) first events printed None
IsReplayedTo stage first bytes left events printed (Script line) =
    IsJudged first bytes left line
    × IsReplayOf stage first bytes left events printed (Some line)
IsReplayedTo stage first bytes left events printed ReadFault =
    HasLineBegun bytes
    × IsReplay stage (script_of first (whole_lines bytes)) first events printed None
IsReplayedTo stage first bytes left events printed (Row line kind) = ⊥
IsReplayedTo stage first bytes left events printed (Ended line) = ⊥

-- no line of a script is done; or rows, the line `script` and a script were taken
abbrev pub IsReadSo : Subject → List ℕ → Option (List ℕ) → List (List Bool) → List Event →
    List ℕ → End → Type 0
IsReadSo r bytes left rows events printed end =
    ((events ≡ []) × (printed ≡ []) × IsUnbegun r.schedule bytes left rows end)
    ⊎ ((front : List ℕ) × (script : List ℕ) × (bytes ≡ front ++ due_line ++ script)
    × AreAllFed r.schedule front rows
    × IsReplayedTo (stage_on r rows) (due_number r.schedule + 1) script left events printed end)

-- These bytes were taken after the header, and this is the text that is put
pub record IsReplied (r : Subject) (bytes : List ℕ) (left : Option (List ℕ)) (end : End)
    (text : List ℕ) : Type 0 where
  pub rows : List (List Bool)
  pub events : List Event
  pub printed : List ℕ
  pub read : IsReadSo r bytes left rows events printed end
  pub text_is : text ≡ reply_of r rows printed events (fault_at end)
