-- What the core keeps beside its history.
use Rattle.std.specs.Prelude.{◌≡◌, ◌≢◌, ◌+◌, ◌-◌, ◌<◌, ◌≤◌, ℕ, Bool, List, count_by, length, Option, None, Some, IsSome, false, if◌then◌else◌, nat_lt, slice_index}
use Rattle.graph_model.specs.Problems.{Decoding}
use Rattle.window_model.specs.Decoder.{operation_at}
use Rattle.window_model.specs.Speculation.{Event, Running, IsFirstTurn, IsOrderedFrom, IsTurn, done, start}
use Rattle.window_model.specs.SpeculationLaws.{is_claim_of}
use Rattle.window_model.specs.TicketLaws.{problem_of}
use Rattle.window_model.specs.Windows.{slot_of, window_count}
use Rattle.core_journal.specs.declared.event.Event.{Event as Entry}
use Rattle.core_state.specs.States.{CoreTable, HasHappened, IsState, MayHappen, events_of, machine_of, running_of}
use Rattle.claim_drafts.specs.Drafts.{AreDrafts, AreSheets, Draft}

-- What always holds of a core: each of its events could happen, and each turn was the first that
-- could.
pub record IsCore (c : CoreTable) : Type 0 where
  pub state : IsState c
  pub ordered : IsOrderedFrom c.task c.retries start (events_of c)

-- how often a window may still be claimed
abbrev pub claims_left : CoreTable → ℕ → ℕ
claims_left c w = (c.retries + 1) - count_by (is_claim_of w) (events_of c)

-- What is kept beside the state: for each claim that may come a draft, and for each window a sheet
-- for the defects of an answer's problem.
pub record IsEquipped (c : CoreTable) (drafts : List (List Draft)) (sheets : List (List Bool)) :
    Type 0 where
  pub ordered : IsOrderedFrom c.task c.retries start (events_of c)
  pub drafts_are : AreDrafts c.task (claims_left c) drafts
  pub sheets_are : AreSheets c.task sheets

abbrev pub IsAllCommitted : CoreTable → Type 0
IsAllCommitted c =
    (w : ℕ) → w < window_count c.task.plan → IsSome (done ((machine_of c).phase w))

abbrev pub IsAllReleased : CoreTable → Type 0
IsAllReleased c =
    (op : ℕ) → op < length c.task.operations → IsSome ((machine_of c).released op)

-- every operation of this slot or an earlier one is released
abbrev pub AreReleased : CoreTable → ℕ → Type 0
AreReleased c slot =
    (op : ℕ) → op < length c.task.operations → (operation_at c.task op).slot ≤ slot →
    IsSome ((machine_of c).released op)

-- every window is committed, and every operation is released
pub record IsAllDone (c : CoreTable) : Type 0 where
  pub windows : IsAllCommitted c
  pub operations : IsAllReleased c

-- no turn can be made
abbrev pub NoTurn : CoreTable → Type 0
NoTurn c = (event : Event) → IsTurn event → ¬ MayHappen c event

-- no window's problem is being decoded
abbrev pub NoneRuns : CoreTable → Type 0
NoneRuns c = (w k : ℕ) → (machine_of c).phase w ≢ Running k

-- the event is the first turn that can be made
pub record IsNext (c : CoreTable) (event : Event) : Type 0 where
  pub may : MayHappen c event
  pub first : IsFirstTurn c.task c.retries (machine_of c) event

-- it was made
pub record HasTurned (old : CoreTable) (entry_ : Entry) (event : Event) (new : CoreTable) : Type
    0 where
  pub next : IsNext old event
  pub happened : HasHappened old entry_ event new

-- the ticket that the window of this ticket runs; none, where no window has claimed it
abbrev pub current_of : CoreTable → ℕ → Option ℕ
current_of c k = if nat_lt k (machine_of c).tickets
    then running_of ((machine_of c).phase ((machine_of c).claim k).window) else None

-- the answer is to the problem of this ticket, which its window runs
pub record IsAwaited (c : CoreTable) (k : ℕ) (answer : Decoding) : Type 0 where
  pub taken : k < (machine_of c).tickets
  pub running : (machine_of c).phase ((machine_of c).claim k).window ≡ Running k
  pub problem : answer.problem ≡ problem_of c.task (machine_of c) k

-- the ticket was claimed, has no result, and wasn't found stale
pub record IsOpen (c : CoreTable) (k : ℕ) : Type 0 where
  pub taken : k < (machine_of c).tickets
  pub open_ : ((machine_of c).claim k).closed ≡ false

-- the value of a detector, and the raw value of an observable, once its slot has arrived
abbrev pub value_seen : CoreTable → ℕ → Option Bool
value_seen c v = if nat_lt (slot_of c.task.tags v) (machine_of c).arrived
    then Some ((machine_of c).value v) else None

abbrev pub raw_seen : CoreTable → ℕ → Option Bool
raw_seen c l = if nat_lt (slice_index c.task.raw_slots l) (machine_of c).arrived
    then Some ((machine_of c).raw l) else None
