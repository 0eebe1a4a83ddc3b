-- One more event.
use Rattle.std.proofs.Common.{◌≡◌, ℕ, ◌<◌, Bool, Option, List, [], ◌∷◌, ◌++◌, refl, sym, ap, ◌∙◌, subst, length, arith, All}
use Rattle.std.proofs.lemmas.List.{length-append, length-map}
use Rattle.window_model.specs.Decoder.{Task}
use Rattle.window_model.specs.Laws.{PlanLaws}
use Rattle.window_model.specs.Speculation.{Agrees, Event, Machine, start, happens, IsEnabled, IsHistory}
use Rattle.window_model.proofs.Arrivals.{brought_law as values_brought}
use Rattle.window_model.proofs.Histories.{happen_all-append, history_push}
use Rattle.window_model.proofs.Lengths.{length_law}
use Rattle.window_setting.proofs.Lawful.{laws_of}
use Rattle.cascade_laws.specs.MirrorLaws.{reached}
use Rattle.cascade_laws.specs.Store.{IsStoreOf}
use Rattle.window_phases.specs.Phases.{PhaseTable, IsTableOf}
use Rattle.release_laws.specs.Tables.{ReleaseTable, IsReleaseTableOf}
use Rattle.core_journal.specs.declared.event.Event.{Event as Entry}
use Rattle.core_journal.specs.declared.event.Event.TheVariants as entry
use Rattle.core_journal.specs.Entries.{Entries, event_of, syndrome_of}
use Rattle.core_journal.specs.EntryLaws.{IsOneMore}
use Rattle.core_store.specs.Tickets.{TicketTable, store_of}
use Rattle.core_journal.proofs.Events.{brought_law}
use Rattle.trace_laws.specs.Told.{running_now}
use Rattle.trace_laws.proofs.More.{more_told_law}
use Rattle.core_state.specs.States.{CoreTable, HasHappened, IsState, Parts, AreParts, AreAnswered, HasBits, kept_of, kept_with, table_of, history_in, machine_in}

-- the tables after one more event, and what is seen of them
pub record Goes (p q : Parts) (entry_ : Entry) (event : Event) : Type 0 where
  pub parts : AreParts q
  pub happened : HasHappened (table_of p) entry_ event (table_of q)

abbrev pub with_entry : Entries → Entry → Entries
with_entry journal entry_ = record journal { entries = journal.entries ++ entry_ ∷ [] }

-- an entry that is stale names the ticket that its window runs
abbrev pub IsToldAt : Machine → Entry → Type 0
IsToldAt m entry_ = (k : ℕ) (current : Option ℕ) → entry_ ≡ entry.Stale k current →
    running_now m k ≡ current

pub happen_all_more : (task : Task) (events : List Event) (event : Event) →
    reached task (events ++ event ∷ []) ≡ happens task (reached task events) event
happen_all_more task events event = happen_all-append task start events (event ∷ [])

module _ (p : Parts) (h : AreParts p) where
  pub laws : PlanLaws p.task.graph p.task.tags p.task.plan
  laws = laws_of p.task h.setting

  module _ (event : Event) (may : IsEnabled p.task p.retries (machine_in p) event) where
    pub longer : IsHistory p.task p.retries (history_in p ++ event ∷ [])
    longer = history_push p.task p.retries start (history_in p) event h.history may

    -- There is room for one entry more.
    pub has_room : length p.journal.entries < p.journal.room
    has_room =
        let most = length_law p.task p.retries (history_in p ++ event ∷ []) laws longer in
        let long = length-append (history_in p) (event ∷ []) in
        let same = length-map p.journal.entries (event_of p.task (kept_of p)) in
        let room = h.room in
        omega (arith, most, long, same, room)

    -- Each table follows the event.
    pub follows : (arrived : ℕ) (values raws : List Bool) (tickets : TicketTable)
        (phases : PhaseTable) (releases : ReleaseTable) (entry_ : Entry) →
        IsOneMore p.task arrived (kept_of p) (kept_with p.task values raws tickets)
        p.journal.entries entry_ event → IsToldAt (machine_in p) entry_ →
        IsTableOf p.task p.retries (history_in p ++ event ∷ []) phases →
        IsStoreOf p.task (history_in p ++ event ∷ []) (store_of p.task.plan tickets) →
        IsReleaseTableOf p.task (history_in p ++ event ∷ []) releases →
        (happens p.task (machine_in p) event).arrived ≡ arrived →
        length values ≡ length p.values → length raws ≡ length p.raws → length releases.frame
        ≡ length p.releases.frame → length tickets.answers ≡ length p.tickets.answers →
        length tickets.closed ≡ length tickets.answers → AreAnswered p.task tickets →
        All (HasBits p.task) tickets.claims →
        Goes p (record {
          task = p.task;
          retries = p.retries;
          arrived = arrived;
          values = values;
          raws = raws;
          tickets = tickets;
          phases = phases;
          releases = releases;
          journal = with_entry p.journal entry_;
        }) entry_ event
    follows arrived values raws tickets phases releases entry_ one told table store release arrives
        each_value each_raw each_flip each_answer each_closed answered each_bits = record {
          parts = record {
            setting = h.setting;
            bounded = h.bounded;
            history = subst (IsHistory p.task p.retries) (sym one.history) longer;
            phases = subst (λ events. IsTableOf p.task p.retries events phases) (sym one.history)
                table;
            tickets = subst (λ events. IsStoreOf p.task events (store_of p.task.plan tickets))
                (sym one.history) store;
            releases = subst (λ events. IsReleaseTableOf p.task events releases) (sym one.history)
                release;
            arrived =
                ap (λ events. (reached p.task events).arrived) one.history
                ∙ ap (λ (m : Machine). m.arrived) (happen_all_more p.task (history_in p) event)
                ∙ arrives;
            there = one.there;
            told = more_told_law p.task (kept_of p) (kept_with p.task values raws tickets)
                p.journal.entries entry_ event h.told one.history told;
            each_value = each_value ∙ h.each_value;
            each_raw = each_raw ∙ h.each_raw;
            each_flip = each_flip ∙ h.each_flip;
            each_answer = each_answer ∙ h.each_answer;
            each_closed = each_closed;
            answered = answered;
            each_bits = each_bits;
            room = h.room;
          };
          happened = record { task = refl; retries = refl; journal = refl; events = one.history };
        }

-- what is kept of values is what the machine has
pub agrees : (p : Parts) → AreParts p → Agrees p.task (machine_in p) (syndrome_of (kept_of p))
agrees p h = values_brought p.task p.retries (history_in p) (syndrome_of (kept_of p)) (laws p h)
    h.history (brought_law p.task (kept_of p) p.journal.entries)

-- What is seen of the tables.
pub is_state_of : (p : Parts) → AreParts p → IsState (table_of p)
is_state_of p h = record {
  setting = h.setting;
  bounded = h.bounded;
  history = h.history;
  brought = brought_law p.task (kept_of p) p.journal.entries;
  agrees = agrees p h;
  told = h.told;
  each_value = h.each_value;
  each_raw = h.each_raw;
}

-- what happened to what is seen
pub from_view : (seen old new : CoreTable) (entry_ : Entry) (event : Event) → seen ≡ old →
    HasHappened seen entry_ event new → HasHappened old entry_ event new
from_view seen old new entry_ event e happened =
    subst (λ (t : CoreTable). HasHappened t entry_ event new) e happened
