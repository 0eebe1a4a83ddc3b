-- Laws of the phases of a history: each event is one call.
use Rattle.std.specs.Prelude.{◌≡◌, ◌<◌, ℕ, false, List, [], ◌∷◌, ◌++◌, length, map, replicate, Some}
use Rattle.std.specs.List.{range_with_len}
use Rattle.window_model.specs.Decoder.{Task}
use Rattle.window_model.specs.Laws.{PlanLaws}
use Rattle.window_model.specs.Windows.{window_at, window_count}
use Rattle.window_model.specs.Speculation.{Link, Event, Claimed, Returned, Verified, Poisoned, Dropped, Committed, pending, MayClaim, MayReturn, MayCommitTicket, IsEnabled, IsHistory}
use Rattle.poison_cascade.specs.Books.{opened, taken, stood, confirmed, vanished}
use Rattle.cascade_laws.specs.MirrorLaws.{reached, LeavesBook}
use Rattle.window_phases.specs.Phases.{PhaseTable, IsTableOf, committed}

-- Before anything happens all windows wait.
abbrev pub AllWaitLaw : Type 0
AllWaitLaw =
    (task : Task) (retries : ℕ) (lists : List (List ℕ)) → lists
    ≡ map (λ w. (window_at task.plan w).deps) (range_with_len 0 (window_count task.plan)) →
    IsTableOf task retries [] (record {
      book = opened lists retries;
      done = replicate (length lists) false;
    })

abbrev pub ClaimedTableLaw : Type 0
ClaimedTableLaw =
    (task : Task) (retries : ℕ) (events : List Event) (table : PhaseTable) (k w : ℕ)
    (links : List Link) → PlanLaws task.graph task.tags task.plan → IsHistory task retries events →
    IsTableOf task retries events table → MayClaim task retries (reached task events) k w links →
    IsTableOf task retries (events ++ Claimed k w links ∷ []) (record table
    { book = taken table.book w (map (λ (link : Link). link.origin) links) })

abbrev pub HeldTableLaw : Type 0
HeldTableLaw =
    (task : Task) (retries : ℕ) (events : List Event) (table : PhaseTable) (k : ℕ) (set : List ℕ) →
    PlanLaws task.graph task.tags task.plan → IsHistory task retries events →
    IsTableOf task retries events table → MayReturn task (reached task events) k set →
    IsTableOf task retries (events ++ Returned k set
    ∷ []) (record table { book = stood table.book ((reached task events).claim k).window })

abbrev pub VerifiedTableLaw : Type 0
VerifiedTableLaw =
    (task : Task) (retries : ℕ) (events : List Event) (table : PhaseTable) (x w : ℕ) →
    PlanLaws task.graph task.tags task.plan → IsHistory task retries events →
    IsTableOf task retries events table →
    IsEnabled task retries (reached task events) (Verified x w) →
    IsTableOf task retries (events
    ++ Verified x w ∷ []) (record table { book = confirmed table.book x w })

abbrev pub GivenUpTableLaw : Type 0
GivenUpTableLaw =
    (task : Task) (retries : ℕ) (events : List Event) (table : PhaseTable) (w k : ℕ) →
    PlanLaws task.graph task.tags task.plan → IsHistory task retries events →
    IsTableOf task retries events table → pending ((reached task events).phase w) ≡ Some k →
    IsTableOf task retries (events
    ++ Dropped w ∷ []) (record table { book = vanished table.book w })
    × ((x : ℕ) → IsTableOf task retries (events
    ++ Poisoned x w ∷ []) (record table { book = vanished table.book w }))

abbrev pub CommittedTableLaw : Type 0
CommittedTableLaw =
    (task : Task) (retries : ℕ) (events : List Event) (table : PhaseTable) (k w : ℕ) →
    IsTableOf task retries events table →
    MayCommitTicket task (reached task events) k w → (w < length table.done)
    × IsTableOf task retries (events ++ Committed k w ∷ []) (committed table w)

-- whether an event leaves all phases as they are
abbrev pub LeavesPhases : Event → Type 0
LeavesPhases (Committed k w) = ⊥
LeavesPhases event = LeavesBook event

abbrev pub LeftTableLaw : Type 0
LeftTableLaw =
    (task : Task) (retries : ℕ) (events : List Event) (table : PhaseTable) (event : Event) →
    IsTableOf task retries events table →
    IsEnabled task retries (reached task events) event → LeavesPhases event →
    IsTableOf task retries (events ++ event ∷ []) table
