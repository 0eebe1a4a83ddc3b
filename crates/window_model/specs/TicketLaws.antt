-- Laws of tickets and of what is kept of a history: that a ticket's problem never moves, that it is
-- closed once, that what is released was an event, and that a claim with no guess is never given
-- up.
use Rattle.std.specs.Prelude.{◌≡◌, ◌↔◌, ◌<◌, ℕ, length, Bool, true, false, ◌==◌, if◌then◌else◌, List, ◌∷◌, ◌++◌, map, All, Some, IsSome, IsNone, count_by}
use Rattle.std.specs.List.{list_any}
use Rattle.graph_model.specs.Members.{In}
use Rattle.graph_model.specs.Problems.{Problem, Solves}
use Rattle.graph_model.specs.Graph.{IsGraph}
use Rattle.window_model.specs.Cells.{CellOrder}
use Rattle.window_model.specs.Windows.{IsPlan, window_at, window_count}
use Rattle.window_model.specs.Decoder.{Task, Release}
use Rattle.window_model.specs.Parts.{part_of}
use Rattle.window_model.specs.Laws.{PlanLaws}
use Rattle.window_model.specs.declared.Origin.TheVariants.{Ticket}
use Rattle.window_model.specs.Speculation.{Link, Machine, Running, Event, Claimed, Returned, Stale, Poisoned, Dropped, Released, start, standing, done, held_by, sources_of, result_of, flips_at, IsLeastResult, defect_of, happen_all, visible, IsHistory}

-- a link that names a ticket names one that has had a result, and has the result's flips
abbrev pub IsBacked : Task → Machine → ℕ → Link → Type 0
IsBacked task m w link =
    (j : ℕ) → link.origin ≡ Ticket j → (j < m.tickets) × IsSome (m.claim j).result
    × (link.bits ≡ flips_at task link.source w (result_of m j))

-- What all that happens keeps: a window that isn't waiting has the claim of its ticket, and its
-- last slot has arrived; a ticket has a link for each dependency; a running ticket has no result
-- yet, and a standing one has a result that is least for what its links say.
pub record IsSound (task : Task) (m : Machine) : Type 0 where
  pub current : (w k : ℕ) → held_by (m.phase w) ≡ Some k → (k < m.tickets)
      × ((m.claim k).window ≡ w) × ((window_at task.plan w).last < m.arrived)
  pub sources : (k : ℕ) → k < m.tickets → sources_of (m.claim k).links
      ≡ (window_at task.plan (m.claim k).window).deps
  pub backed : (k : ℕ) → k < m.tickets → All (IsBacked task m (m.claim k).window) (m.claim k).links
  pub fresh : (w k : ℕ) → m.phase w ≡ Running k → IsNone (m.claim k).result
  pub least : (w k : ℕ) → standing (m.phase w) ≡ Some k → IsSome (m.claim k).result
      × IsLeastResult task m.value (m.claim k) (result_of m k)

-- Every history keeps it.
abbrev pub SoundLaw : Type 0
SoundLaw =
    (task : Task) (retries : ℕ) (events : List Event) → PlanLaws task.graph task.tags task.plan →
    IsHistory task retries events →
    IsSound task (happen_all task start events)

-- the problem of a ticket: the part of its window, with the defects of its claim
abbrev pub problem_of : Task → Machine → ℕ → Problem
problem_of task m k = record {
  part = part_of task.graph task.plan (m.claim k).window;
  defects =
      map (defect_of task m.value (m.claim k)) (window_at task.plan (m.claim k).window).detectors;
}

-- the ticket's window is one of the plan's, and its last slot has arrived
pub record IsCovered (task : Task) (m : Machine) (k : ℕ) : Type 0 where
  pub in_range : (m.claim k).window < window_count task.plan
  pub arrived : (window_at task.plan (m.claim k).window).last < m.arrived

-- A set that solves a ticket's problem by itself is a least set for it, and the other way round.
abbrev pub ResultLaw : Type 0
ResultLaw =
    (task : Task) (order : CellOrder) (commit buffer : ℕ) → IsGraph task.graph → length task.tags
    ≡ task.graph.vertices →
    IsPlan task.graph task.tags order commit buffer task.plan →
    (m : Machine) (k : ℕ) (set : List ℕ) → (m.claim k).window < window_count task.plan →
    Solves (problem_of task m k) set ↔ IsLeastResult task m.value (m.claim k) set

-- Every ticket's window has arrived whole.
abbrev pub CoveredLaw : Type 0
CoveredLaw =
    (task : Task) (retries : ℕ) (events : List Event) (k : ℕ) →
    PlanLaws task.graph task.tags task.plan → IsHistory task retries events →
    k < (happen_all task start events).tickets → IsCovered task (happen_all task start events) k

-- A ticket's problem stays as it was claimed, whatever happens later.
abbrev pub StillLaw : Type 0
StillLaw =
    (task : Task) (retries : ℕ) (before later : List Event) (k : ℕ) →
    PlanLaws task.graph task.tags task.plan → IsHistory task retries (before ++ later) →
    k < (happen_all task start before).tickets →
    problem_of task (happen_all task start (before ++ later)) k
    ≡ problem_of task (happen_all task start before) k

-- whether the event is a result of ticket k, or finds it stale
abbrev pub closes : ℕ → Event → Bool
closes k (Returned j set) = j == k
closes k (Stale j) = j == k
closes k _ = false

-- A closed ticket has one result or was found stale once, and any other neither.
abbrev pub ClosedLaw : Type 0
ClosedLaw =
    (task : Task) (retries : ℕ) (events : List Event) (k : ℕ) →
    PlanLaws task.graph task.tags task.plan → IsHistory task retries events →
    count_by (closes k) events ≡ (if ((happen_all task start events).claim k).closed then 1 else 0)

abbrev pub is_claim : Event → Bool
is_claim (Claimed k w links) = true
is_claim _ = false

-- There are as many tickets as claims.
abbrev pub TicketLaw : Type 0
TicketLaw = (task : Task) (events : List Event) → count_by is_claim events
    ≡ (happen_all task start events).tickets

-- A released bit was an event, and shows as a step.
abbrev pub GivenLaw : Type 0
GivenLaw =
    (task : Task) (events : List Event) (op : ℕ) (bit : Bool) →
    (happen_all task start events).released op ≡ Some bit →
    In (Released op bit) events × In (Release op bit) (visible task events)

-- whether the event gives window w up: it is poisoned or dropped
abbrev pub gives_up : ℕ → Event → Bool
gives_up w (Poisoned x y) = y == w
gives_up w (Dropped y) = y == w
gives_up w _ = false

-- A claim whose dependencies were all done is never poisoned or dropped.
abbrev pub FirmLaw : Type 0
FirmLaw =
    (task : Task) (retries : ℕ) (before later : List Event) (k w : ℕ) (links : List Link) →
    PlanLaws task.graph task.tags task.plan →
    IsHistory task retries (before ++ Claimed k w links ∷ later) →
    All (λ x. IsSome (done ((happen_all task start before).phase x))) (window_at task.plan w).deps →
    list_any (gives_up w) later ≡ false
