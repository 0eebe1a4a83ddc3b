-- The speculative decoder's state: its history as a journal with what is kept beside it, and the
-- tables that are kept of the machine which the history leads to.
use Rattle.std.specs.Prelude.{◌≡◌, ◌≤◌, ◌+◌, ◌*◌, ◌++◌, ◌∷◌, ℕ, Bool, List, [], All, length, map, Option, None, Some, slice_index}
use Rattle.graph_model.specs.Problems.{Decoding}
use Rattle.window_model.specs.Decoder.{Task}
use Rattle.window_model.specs.Parts.{part_of}
use Rattle.window_model.specs.Speculation.{Agrees, Event, Committed, Released, Machine, Phase, Waiting, Running, Held, Done, IsBrought, IsEnabled, IsFirstTurn, IsHistory}
use Rattle.window_model.specs.TurnLaws.{NoCommit, NoRelease}
use Rattle.window_model.specs.SpeculationLaws.{most_events}
use Rattle.window_model.specs.Windows.{places, window_at, window_count}
use Rattle.window_setting.specs.Settings.{IsSetting}
use Rattle.cascade_laws.specs.MirrorLaws.{reached}
use Rattle.cascade_laws.specs.Store.{IsStoreOf}
use Rattle.window_phases.specs.Phases.{PhaseTable, IsTableOf}
use Rattle.release_laws.specs.Tables.{ReleaseTable, IsReleaseTableOf}
use Rattle.core_journal.specs.declared.event.Event.{Event as Entry}
use Rattle.core_journal.specs.Entries.{Entries, Kept, history_of, AreThere, syndrome_of}
use Rattle.core_store.specs.Tickets.{ClaimBits, TicketTable, answer_at, store_of}
use Rattle.trace_laws.specs.Told.{AreTold}

-- what is decoded, how often a window may be given up and still be guessed at again, the journal,
-- and
-- what is kept beside it
pub record CoreTable : Type 0 where
  pub task : Task
  pub retries : ℕ
  pub journal : List Entry
  pub kept : Kept

-- its history
abbrev pub events_of : CoreTable → List Event
events_of c = history_of c.task c.kept c.journal

-- the machine that its history leads to
abbrev pub machine_of : CoreTable → Machine
machine_of c = reached c.task (events_of c)

-- the event may happen next
abbrev pub MayHappen : CoreTable → Event → Type 0
MayHappen c event = IsEnabled c.task c.retries (machine_of c) event

-- One more event, with its entry.
pub record HasHappened (old : CoreTable) (entry_ : Entry) (event : Event) (new : CoreTable) : Type
    0 where
  pub task : new.task ≡ old.task
  pub retries : new.retries ≡ old.retries
  pub journal : new.journal ≡ old.journal ++ entry_ ∷ []
  pub events : events_of new ≡ events_of old ++ event ∷ []

-- Nothing has happened.
pub record IsBegun (task : Task) (retries : ℕ) (c : CoreTable) : Type 0 where
  pub task_is : c.task ≡ task
  pub retries_are : c.retries ≡ retries
  pub journal : c.journal ≡ []

-- What always holds: each event was enabled, and each arrival brought the values that are kept, so
-- these are the machine's. A stale entry names the ticket that its window ran then.
pub record IsState (c : CoreTable) : Type 0 where
  pub setting : IsSetting c.task
  pub bounded : c.retries ≤ 8
  pub history : IsHistory c.task c.retries (events_of c)
  pub brought : All (IsBrought c.task (syndrome_of c.kept)) (events_of c)
  pub agrees : Agrees c.task (machine_of c) (syndrome_of c.kept)
  pub told : AreTold c.task c.kept c.journal
  pub each_value : length c.kept.values ≡ c.task.graph.vertices
  pub each_raw : length c.kept.raws ≡ length c.task.raw_slots

-- the ticket that a window runs
abbrev pub running_of : Phase → Option ℕ
running_of Waiting = None
running_of (Running k) = Some k
running_of (Held k) = None
running_of (Done k) = None

-- the commit that was found, of a ticket and its window, is the first turn; or there is none
abbrev pub IsCommitFound : Task → ℕ → Machine → Option (ℕ × ℕ) → Type 0
IsCommitFound task retries m None = NoCommit task m
IsCommitFound task retries m (Some pair) =
    IsEnabled task retries m (Committed pair.0 pair.1)
    × IsFirstTurn task retries m (Committed pair.0 pair.1)

-- the release that was found is the first turn; or there is none
abbrev pub IsReleaseFound : Task → ℕ → Machine → Option ℕ → Type 0
IsReleaseFound task retries m None = NoRelease task m
IsReleaseFound task retries m (Some op) =
    (given : Bool) × IsEnabled task retries m (Released op given)
    × IsFirstTurn task retries m (Released op given)

-- ---- what is kept

-- one table for each thing that the scans and the calls ask for
pub record Parts : Type 0 where
  pub task : Task
  pub retries : ℕ
  pub arrived : ℕ
  pub values : List Bool
  pub raws : List Bool
  pub tickets : TicketTable
  pub phases : PhaseTable
  pub releases : ReleaseTable
  pub journal : Entries

abbrev pub kept_with : Task → List Bool → List Bool → TicketTable → Kept
kept_with task values raws tickets = record {
  values = values;
  raws = raws;
  links = (store_of task.plan tickets).links;
  results = (store_of task.plan tickets).results;
}

abbrev pub kept_of : Parts → Kept
kept_of p = kept_with p.task p.values p.raws p.tickets

abbrev pub table_of : Parts → CoreTable
table_of p = record {
  task = p.task;
  retries = p.retries;
  journal = p.journal.entries;
  kept = kept_of p;
}

abbrev pub history_in : Parts → List Event
history_in p = events_of (table_of p)

abbrev pub machine_in : Parts → Machine
machine_in p = machine_of (table_of p)

-- how many tickets there may be
abbrev pub most_tickets : Task → ℕ → ℕ
most_tickets task retries = window_count task.plan * (retries + 1)

-- each answer is of the part of its ticket's window
pub record AreAnswered (task : Task) (tickets : TicketTable) : Type 0 where
  pub part : (k : ℕ) (d : Decoding) → answer_at tickets k ≡ Some d →
      d.problem.part
      ≡ part_of task.graph task.plan (slice_index (store_of task.plan tickets).windows k)

-- for each dependency of its window the claim has a bit for each of the places that the two share
abbrev pub HasBits : Task → ClaimBits → Type 0
HasBits task claim = map length claim.bits
    ≡ map (λ x. length (places task.graph task.plan x claim.window))
    (window_at task.plan claim.window).deps

-- Each table is that of the history, all that the journal speaks of is kept, and there is room for
-- all
-- that may come.
pub record AreParts (p : Parts) : Type 0 where
  pub setting : IsSetting p.task
  pub bounded : p.retries ≤ 8
  pub history : IsHistory p.task p.retries (history_in p)
  pub phases : IsTableOf p.task p.retries (history_in p) p.phases
  pub tickets : IsStoreOf p.task (history_in p) (store_of p.task.plan p.tickets)
  pub releases : IsReleaseTableOf p.task (history_in p) p.releases
  pub arrived : (machine_in p).arrived ≡ p.arrived
  pub there : AreThere p.arrived (kept_of p) p.journal.entries
  pub told : AreTold p.task (kept_of p) p.journal.entries
  pub each_value : length p.values ≡ p.task.graph.vertices
  pub each_raw : length p.raws ≡ length p.task.raw_slots
  pub each_flip : length p.releases.frame ≡ length p.task.raw_slots
  pub each_answer : length p.tickets.answers ≡ most_tickets p.task p.retries
  pub each_closed : length p.tickets.closed ≡ length p.tickets.answers
  pub answered : AreAnswered p.task p.tickets
  pub each_bits : All (HasBits p.task) p.tickets.claims
  pub room : p.journal.room ≡ most_events p.task p.retries
