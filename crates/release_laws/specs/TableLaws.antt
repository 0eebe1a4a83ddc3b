-- Laws of the table of a history: each event is one change of it, and by it the least operation
-- that may be released is found, with its bit.
use Rattle.std.specs.Prelude.{◌≡◌, ◌<◌, ◌++◌, ℕ, Bool, true, false, List, [], ◌∷◌, length, map, replicate, All, Option, None, Some, ◌↔◌, slice_index}
use Rattle.std.specs.Bool.{⊤}
use Rattle.std.specs.List.{range_with_len}
use Rattle.window_model.specs.Decoder.{Task, needs, operation_at, owned_part}
use Rattle.window_model.specs.Laws.{PlanLaws}
use Rattle.window_model.specs.Speculation.{Machine, Event, Committed, Released, result_of, MayCommitTicket, IsEnabled, IsFirstTurn, IsHistory}
use Rattle.window_model.specs.TurnLaws.{CanRelease, NoDrop, NoComparison, NoCommit, NoRelease}
use Rattle.poison_cascade.specs.Books.{IsLeast}
use Rattle.cascade_laws.specs.MirrorLaws.{reached}
use Rattle.release_laws.specs.Tables.{ReleaseTable, IsReleaseTableOf, TakesWindow, waiting_for, with_bit, can_release, framed_bit}

-- each observable of an operation is one of the task's
abbrev pub AreNamed : Task → Type 0
AreNamed task = (op : ℕ) → op < length task.operations →
    All (λ l. l < length task.raw_slots) (operation_at task op).labels

-- Before anything happens all the windows that an operation needs are missing, no operation is
-- released, and nothing is flipped.
abbrev pub NoneReleasedLaw : Type 0
NoneReleasedLaw =
    (task : Task) (labels : ℕ) → IsReleaseTableOf task []
    (record {
      missing = map (λ op. length (needs task op))
          (range_with_len 0 (length task.operations));
      bits = replicate (length task.operations) None;
      frame = replicate labels false;
    })

abbrev pub TakenWindowLaw : Type 0
TakenWindowLaw =
    (task : Task) (retries : ℕ) (events : List Event) (old new : ReleaseTable) (k w : ℕ) →
    PlanLaws task.graph task.tags task.plan → IsHistory task retries events →
    IsReleaseTableOf task events old → MayCommitTicket task (reached task events) k w →
    TakesWindow task w (owned_part task w (result_of (reached task events) k)) old new →
    IsReleaseTableOf task (events ++ Committed k w ∷ []) new

-- The window that is committed was missing to each operation that needs it.
abbrev pub StillMissingLaw : Type 0
StillMissingLaw =
    (task : Task) (events : List Event) (table : ReleaseTable) (k w : ℕ) →
    IsReleaseTableOf task events table → MayCommitTicket task (reached task events) k w →
    All (λ op. (op < length table.missing) × (0 < slice_index table.missing op))
    (waiting_for task w)

abbrev pub ReleasedTableLaw : Type 0
ReleasedTableLaw =
    (task : Task) (retries : ℕ) (events : List Event) (table : ReleaseTable) (op : ℕ) (bit : Bool) →
    PlanLaws task.graph task.tags task.plan → IsHistory task retries events →
    IsReleaseTableOf task events table →
    IsEnabled task retries (reached task events) (Released op bit) →
    (op < length table.bits)
    × IsReleaseTableOf task (events ++ Released op bit ∷ []) (with_bit table op bit)

-- whether an event leaves the table as it is
abbrev pub LeavesReleases : Event → Type 0
LeavesReleases (Committed k w) = ⊥
LeavesReleases (Released op bit) = ⊥
LeavesReleases _ = ⊤

abbrev pub LeftReleasesLaw : Type 0
LeftReleasesLaw =
    (task : Task) (retries : ℕ) (events : List Event) (table : ReleaseTable) (event : Event) →
    PlanLaws task.graph task.tags task.plan → IsHistory task retries events →
    IsReleaseTableOf task events table → IsEnabled task retries (reached task events) event →
    LeavesReleases event → IsReleaseTableOf task (events ++ event ∷ []) table

-- ---- releases

abbrev pub ReleasableLaw : Type 0
ReleasableLaw =
    (task : Task) (events : List Event) (table : ReleaseTable) (op : ℕ) → AreNamed task →
    IsReleaseTableOf task events table → op < length task.operations →
    can_release task (reached task events).arrived table op
    ≡ true ↔ CanRelease task (reached task events) op

-- the release that was found is the first turn, with this bit; or there is none
abbrev pub IsReleaseTurn : Task → ℕ → Machine → List Bool → Option ℕ → Type 0
IsReleaseTurn task retries m frame None = NoRelease task m
IsReleaseTurn task retries m frame (Some op) =
    IsEnabled task retries m (Released op (framed_bit task m.raw frame op))
    × IsFirstTurn task retries m (Released op (framed_bit task m.raw frame op))

abbrev pub FirstReleaseLaw : Type 0
FirstReleaseLaw =
    (task : Task) (retries : ℕ) (events : List Event) (table : ReleaseTable) (found : Option ℕ) →
    AreNamed task → IsReleaseTableOf task events table →
    NoDrop (reached task events) → NoComparison task (reached task events) →
    NoCommit task (reached task events) →
    IsLeast (λ op. (op < length task.operations)
    × (can_release task (reached task events).arrived table op ≡ true)) found →
    IsReleaseTurn task retries (reached task events) table.frame found
