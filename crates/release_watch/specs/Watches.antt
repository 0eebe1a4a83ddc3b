-- Which operation may be released, where the greatest slot of each operation's raw values is known.
use Rattle.std.specs.Prelude.{◌≡◌, ◌<◌, ◌&&◌, ◌==◌, ℕ, Bool, true, nat_lt, List, length, Option, is_none, slice_index}
use Rattle.window_model.specs.Decoder.{Task}
use Rattle.window_model.specs.Speculation.{Event, Machine}
use Rattle.window_model.specs.TurnLaws.{NoDrop, NoComparison, NoCommit}
use Rattle.poison_cascade.specs.Books.{IsLeast}
use Rattle.cascade_laws.specs.MirrorLaws.{reached}
use Rattle.release_laws.specs.Tables.{ReleaseTable, IsReleaseTableOf, bit_of, can_release}
use Rattle.release_laws.specs.TableLaws.{IsReleaseTurn}
use Rattle.window_setting.specs.Settings.{IsSetting}
use Rattle.window_setting.specs.Slots.{last_raws}

-- an operation that isn't released, to which no window is missing, and whose last raw slot is among
-- so many slots
abbrev pub is_ready : List ℕ → ℕ → ReleaseTable → ℕ → Bool
is_ready last_raws arrived table op = (is_none (bit_of table op)
    && (slice_index table.missing op == 0)) && nat_lt (slice_index last_raws op) arrived

-- The raw values of a setting's operation have arrived exactly where the last of them has.
abbrev pub ReadyLaw : Type 0
ReadyLaw =
    (task : Task) (arrived op : ℕ) (table : ReleaseTable) → IsSetting task →
    op < length task.operations →
    is_ready (last_raws task) arrived table op ≡ can_release task arrived table op

-- an operation of the table that is ready by the last raw slots of the task
abbrev pub IsReady : Task → Machine → ReleaseTable → ℕ → Type 0
IsReady task m table op =
    (op < length table.missing) × (is_ready (last_raws task) m.arrived table op ≡ true)

-- So the least operation that is ready is the first turn, where nothing is dropped, compared or
-- committed.
abbrev pub FirstReadyLaw : Type 0
FirstReadyLaw =
    (task : Task) (retries : ℕ) (events : List Event) (table : ReleaseTable) (found : Option ℕ) →
    IsSetting task → IsReleaseTableOf task events table → NoDrop (reached task events) →
    NoComparison task (reached task events) → NoCommit task (reached task events) →
    IsLeast (IsReady task (reached task events) table) found →
    IsReleaseTurn task retries (reached task events) table.frame found
