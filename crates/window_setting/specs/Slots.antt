-- What belongs to a slot: its detectors, its observables, the windows that can be committed after
-- it, and the operations that can be released then.
use Rattle.std.specs.Prelude.{◌≡◌, ◌==◌, ℕ, List, [], length, map, slice_index, slice_index_or}
use Rattle.std.specs.List.{range_with_len}
use Rattle.graph_model.specs.declared.Tag.{Tag}
use Rattle.window_model.specs.Decoder.{Task, operation_at}
use Rattle.window_model.specs.Gates.{round_over}
use Rattle.window_model.specs.Windows.{all_below, greatest}
use Rattle.release_gate.specs.Slots.{ready_slots}

-- the slots of the detectors
abbrev pub detector_slots : Task → List ℕ
detector_slots task = map (λ (tag : Tag). tag.slot) task.tags

-- for each operation its ready round: the greatest of the raw slots of its observables and of the
-- ready slots of the windows that it needs
abbrev pub ready_rounds : Task → List ℕ
ready_rounds task =
    map (round_over task (ready_slots task.plan)) (range_with_len 0 (length task.operations))

-- the last slot of the raw values of an operation's observables
abbrev pub last_raw : Task → ℕ → ℕ
last_raw task op = greatest (map (slice_index task.raw_slots) (operation_at task op).labels)

-- for each operation
abbrev pub last_raws : Task → List ℕ
last_raws task = map (last_raw task) (range_with_len 0 (length task.operations))

-- the numbers of those that have this slot, ascending
abbrev pub at_slot : List ℕ → ℕ → List ℕ
at_slot slots t = all_below (length slots) (λ i. slice_index slots i == t)

-- a row for each slot below `count`
pub record AreRows (slots : List ℕ) (count : ℕ) (rows : List (List ℕ)) : Type 0 where
  pub each_slot : length rows ≡ count
  pub row : (t : ℕ) → slice_index_or rows t [] ≡ at_slot slots t
