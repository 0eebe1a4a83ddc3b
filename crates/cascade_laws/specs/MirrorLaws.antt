-- Laws of the book of a history: each event is one call of the book, and what the book finds next
-- is what the decoder may do next.
use Rattle.std.specs.Prelude.{◌≡◌, ◌<◌, ℕ, false, List, [], ◌∷◌, ◌++◌, map, All, Some, IsSome, option_map, ◌↔◌, length}
use Rattle.std.specs.Bool.{⊤}
use Rattle.std.specs.List.{range_with_len}
use Rattle.window_model.specs.declared.Origin.TheVariants.{Ticket}
use Rattle.window_model.specs.Decoder.{Task}
use Rattle.window_model.specs.Laws.{PlanLaws}
use Rattle.window_model.specs.Windows.{window_at, window_count}
use Rattle.window_model.specs.Speculation.{Link, Done, Machine, Event, Arrived, Claimed, Returned, Stale, Verified, Poisoned, Dropped, Committed, Released, start, happen_all, pending, MayClaim, MayReturn, IsOrphan as RestsOnGone, IsEnabled, IsHistory}
use Rattle.window_model.specs.TurnLaws.{CanCompare}
use Rattle.poison_cascade.specs.Books.{Live, TicketBook, entry_at, IsOrphan, IsUnverified, opened, taken, stood, confirmed, vanished}
use Rattle.cascade_laws.specs.Mirror.{IsBookOf, MayTake}

abbrev pub reached : Task → List Event → Machine
reached task events = happen_all task start events

-- Every link of a committed window names the ticket of a committed window.
abbrev pub BasedLaw : Type 0
BasedLaw =
    (task : Task) (retries : ℕ) (events : List Event) (w k : ℕ) →
    PlanLaws task.graph task.tags task.plan → IsHistory task retries events →
    (reached task events).phase w ≡ Done k →
    All (λ (link : Link). (j : ℕ) × (link.origin ≡ Ticket j)
    × ((reached task events).phase link.source ≡ Done j)) ((reached task events).claim k).links

-- Before anything happens the book is one in which no ticket is taken.
abbrev pub OpenedLaw : Type 0
OpenedLaw =
    (task : Task) (retries : ℕ) (lists : List (List ℕ)) → lists
    ≡ map (λ w. (window_at task.plan w).deps) (range_with_len 0 (window_count task.plan)) →
    IsBookOf task retries [] (opened lists retries)

-- A claim takes a ticket.
abbrev pub ClaimedLaw : Type 0
ClaimedLaw =
    (task : Task) (retries : ℕ) (events : List Event) (book : TicketBook) (k w : ℕ)
    (links : List Link) → PlanLaws task.graph task.tags task.plan → IsHistory task retries events →
    IsBookOf task retries events book → MayClaim task retries (reached task events) k w links →
    MayTake book w (map (λ (link : Link). link.origin) links)
    × IsBookOf task retries (events ++ Claimed k w links ∷ [])
    (taken book w (map (λ (link : Link). link.origin) links))

-- A result makes a ticket stand.
abbrev pub ReturnedLaw : Type 0
ReturnedLaw =
    (task : Task) (retries : ℕ) (events : List Event) (book : TicketBook) (k : ℕ) (set : List ℕ) →
    PlanLaws task.graph task.tags task.plan → IsHistory task retries events →
    IsBookOf task retries events book → MayReturn task (reached task events) k set →
    (((reached task events).claim k).window < length book.windows)
    × (option_map (λ (live : Live). live.stands)
    (entry_at book ((reached task events).claim k).window).live ≡ Some false)
    × IsBookOf task retries (events ++ Returned k set ∷ [])
    (stood book ((reached task events).claim k).window)

-- A guess that is verified is confirmed.
abbrev pub VerifiedLaw : Type 0
VerifiedLaw =
    (task : Task) (retries : ℕ) (events : List Event) (book : TicketBook) (x w : ℕ) →
    PlanLaws task.graph task.tags task.plan → IsHistory task retries events →
    IsBookOf task retries events book →
    IsEnabled task retries (reached task events) (Verified x w) →
    IsBookOf task retries (events ++ Verified x w ∷ []) (confirmed book x w)

-- A window that is given up loses its ticket.
abbrev pub GivenUpLaw : Type 0
GivenUpLaw =
    (task : Task) (retries : ℕ) (events : List Event) (book : TicketBook) (w k : ℕ) →
    PlanLaws task.graph task.tags task.plan → IsHistory task retries events →
    IsBookOf task retries events book → pending ((reached task events).phase w) ≡ Some k →
    (w < length book.windows) × IsSome (entry_at book w).live
    × IsBookOf task retries (events ++ Dropped w ∷ []) (vanished book w)
    × ((x : ℕ) → IsBookOf task retries (events ++ Poisoned x w ∷ []) (vanished book w))

-- whether an event leaves the book as it is
abbrev pub LeavesBook : Event → Type 0
LeavesBook (Arrived t values raws) = ⊤
LeavesBook (Stale k) = ⊤
LeavesBook (Committed k w) = ⊤
LeavesBook (Released op bit) = ⊤
LeavesBook _ = ⊥

-- What is not said of tickets leaves the book as it is.
abbrev pub LeftLaw : Type 0
LeftLaw =
    (task : Task) (retries : ℕ) (events : List Event) (book : TicketBook) (event : Event) →
    IsBookOf task retries events book →
    IsEnabled task retries (reached task events) event → LeavesBook event →
    IsBookOf task retries (events ++ event ∷ []) book

-- The windows that rest on a ticket which is gone are those that may be dropped.
abbrev pub OrphanLaw : Type 0
OrphanLaw =
    (task : Task) (retries : ℕ) (events : List Event) (book : TicketBook) (w : ℕ) →
    PlanLaws task.graph task.tags task.plan → IsHistory task retries events →
    IsBookOf task retries events book → IsOrphan book w ↔ RestsOnGone (reached task events) w

-- The guesses about a window that has a result are those that may be compared.
abbrev pub ComparedLaw : Type 0
ComparedLaw =
    (task : Task) (retries : ℕ) (events : List Event) (book : TicketBook) (w x : ℕ) →
    PlanLaws task.graph task.tags task.plan → IsHistory task retries events →
    IsBookOf task retries events book →
    IsUnverified book w x ↔ CanCompare task (reached task events) x w
