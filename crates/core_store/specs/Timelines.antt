-- A task with what belongs to each slot, and what operations wait for.
use Rattle.std.specs.Prelude.{◌≡◌, ◌+◌, ℕ, List, map}
use Rattle.std.specs.List.{range_with_len}
use Rattle.release_laws.specs.Tables.{waiting_for}
use Rattle.window_model.specs.Decoder.{Task}
use Rattle.window_model.specs.Speculation.{detector_slots}
use Rattle.window_model.specs.Windows.{window_count}
use Rattle.window_setting.specs.Slots.{AreRows, last_raws as last_slots}

-- for each slot the row of its detectors and that of its observables, for each operation the last
-- slot of its raw values, and for each window the operations that wait for it
pub record IsTimeline (task : Task) (detectors observables : List (List ℕ)) (last_raws : List ℕ)
    (waiting : List (List ℕ)) : Type 0 where
  pub detector_rows : AreRows (detector_slots task) (task.last_slot + 1) detectors
  pub observable_rows : AreRows task.raw_slots (task.last_slot + 1) observables
  pub last_raws_are : last_raws ≡ last_slots task
  pub waiting_are : waiting ≡ map (waiting_for task) (range_with_len 0 (window_count task.plan))
