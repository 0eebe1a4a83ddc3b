-- The answers of open tickets, and how a core at which others worked comes to rest.
use Rattle.std.proofs.Common.{◌≡◌, ◌<◌, ◌≤◌, ◌+◌, ⊎_elim, ◌⊎◌, inl, inr, ℕ, Bool, true, false, List, [], ◌∷◌, ◌++◌, refl, sym, ap, ◌∙◌, subst, append_assoc, append-nil, arith, filter_map, map, All, Option, Some}
use Rattle.std.proofs.lemmas.Bool.{cases_eq, true≢false}
use Rattle.std.proofs.lemmas.List.Elements.{All-append, All-cons, All-head, All-nil, All-tail}
use Rattle.window_model.specs.declared.GuessView.{GuessView}
use Rattle.window_model.specs.Decoder.{Task}
use Rattle.window_model.specs.Laws.{PlanLaws}
use Rattle.window_model.specs.Speculation.{Claim, Event, Arrived, Claimed, Returned, Stale, Verified, Poisoned, Dropped, Committed, Released, Machine, close_with, happens, happen_all, held_by, start, visible_from, IsEnabled, IsHistoryFrom}
use Rattle.window_model.specs.TicketLaws.{IsSound, problem_of}
use Rattle.window_model.proofs.Soundness.{sound_step, start_sound}
use Rattle.window_model.proofs.Sums.{at_set}
use Rattle.window_model.proofs.Tickets.{AreOpen, open_step}
use Rattle.core_journal.specs.declared.event.Event.{Event as Entry}
use Rattle.core_journal.specs.declared.event.Event.TheVariants as entry
use Rattle.core_journal.specs.Entries.{Kept, event_of}
use Rattle.core_state.specs.States.{CoreTable, HasHappened, IsState, events_of, machine_of}
use Rattle.window_core.specs.Cores.{IsOpen}
use Rattle.window_core.specs.Turned.{IsReported, IsSetAside}
use Rattle.window_core.specs.declared.turn.Finished.{Finished}
use Rattle.window_core.specs.declared.turn.Reported.{Reported}
use Rattle.window_core.specs.declared.turn.Reported.TheVariants as reported
use Rattle.slot_decoder.specs.Answers.{HasAnswered, HasComeToRest, IsAnswer, IsClosed, released_in}
use Rattle.slot_decoder.specs.Histories.{AreAllGuessed, AreGuessedFrom}
use Rattle.slot_decoder.specs.Slots.{AreReleases, BringsNoSlot, HasGoneOn, IsIdle, releases_in, view_of}
use Rattle.slot_decoder.proofs.Driving.{gone_further, machine_now}
use Rattle.slot_decoder.proofs.Going.{one_keeps}
use Rattle.window_core.proofs.Histories.{guessed_append}
use Rattle.slot_decoder.proofs.Resting.{laws}

-- ---- an answer

answer_brings : (event : Event) → IsAnswer event → BringsNoSlot event
answer_brings (Arrived t values raws) is = is
answer_brings (Claimed k w links) is = tt
answer_brings (Returned k set) is = tt
answer_brings (Stale k) is = tt
answer_brings (Verified x w) is = tt
answer_brings (Poisoned x w) is = tt
answer_brings (Dropped w) is = tt
answer_brings (Committed k w) is = tt
answer_brings (Released op bit) is = tt

answers_bring : (events : List Event) → All IsAnswer events → All BringsNoSlot events
answers_bring [] all = All-nil BringsNoSlot
answers_bring (event ∷ events) all =
    All-cons BringsNoSlot event events (answer_brings event (All-head IsAnswer event events all))
    (answers_bring events (All-tail IsAnswer event events all))

answers_guess : (may_guess : GuessView → Bool → Type 0) (task : Task) (m : Machine)
    (events : List Event) → All IsAnswer events → AreGuessedFrom may_guess task m events
answers_guess may_guess task m [] all = tt
answers_guess may_guess task m (Arrived t values raws ∷ events) all =
    absurd (All-head IsAnswer (Arrived t values raws) events all)
answers_guess may_guess task m (Claimed k w links ∷ events) all =
    absurd (All-head IsAnswer (Claimed k w links) events all)
answers_guess may_guess task m (Returned k set ∷ events) all = (
  tt,
  answers_guess may_guess task (happens task m (Returned k set)) events
      (All-tail IsAnswer (Returned k set) events all),
)
answers_guess may_guess task m (Stale k ∷ events) all = (
  tt,
  answers_guess may_guess task (happens task m (Stale k)) events
      (All-tail IsAnswer (Stale k) events all),
)
answers_guess may_guess task m (Verified x w ∷ events) all =
    absurd (All-head IsAnswer (Verified x w) events all)
answers_guess may_guess task m (Poisoned x w ∷ events) all =
    absurd (All-head IsAnswer (Poisoned x w) events all)
answers_guess may_guess task m (Dropped w ∷ events) all =
    absurd (All-head IsAnswer (Dropped w) events all)
answers_guess may_guess task m (Committed k w ∷ events) all =
    absurd (All-head IsAnswer (Committed k w) events all)
answers_guess may_guess task m (Released op bit ∷ events) all =
    absurd (All-head IsAnswer (Released op bit) events all)

-- a closed ticket stays closed, and the answered one is closed
closed_with : (m : Machine) (j : ℕ) (result : Option (List ℕ)) (k : ℕ) →
    ((m.claim k).closed ≡ true) ⊎ (k ≡ j) → (close_with m j result k).closed ≡ true
closed_with m j result k old =
    at_set (λ (c : Claim). c.closed ≡ true) m.claim j
    (record (m.claim j) { result = result; closed = true }) k (λ here. refl) old

module _ (old new : CoreTable) (entry_ : Entry) (k : ℕ) (set : List ℕ)
    (h : HasHappened old entry_ (Returned k set) new) where
  returned_now : machine_of new ≡ happens old.task (machine_of old) (Returned k set)
  returned_now = machine_now old new entry_ (Returned k set) h

  returned : HasAnswered old new
  returned = record {
    task = h.task;
    retries = h.retries;
    more = Returned k set ∷ [];
    events = h.events;
    answers = All-cons IsAnswer (Returned k set) [] tt (All-nil IsAnswer);
    tickets = ap (λ (m : Machine). m.tickets) returned_now;
    closed = λ j is. subst (λ (m : Machine). (m.claim j).closed ≡ true) (sym returned_now)
        (closed_with (machine_of old) k (Some set) j (inl is));
  }

  returned_closed : IsClosed new k
  returned_closed = subst (λ (m : Machine). (m.claim k).closed ≡ true) (sym returned_now)
      (closed_with (machine_of old) k (Some set) k (inr refl))

module _ (old new : CoreTable) (entry_ : Entry) (k : ℕ)
    (h : HasHappened old entry_ (Stale k) new) where
  stale_now : machine_of new ≡ happens old.task (machine_of old) (Stale k)
  stale_now = machine_now old new entry_ (Stale k) h

  stale : HasAnswered old new
  stale = record {
    task = h.task;
    retries = h.retries;
    more = Stale k ∷ [];
    events = h.events;
    answers = All-cons IsAnswer (Stale k) [] tt (All-nil IsAnswer);
    tickets = ap (λ (m : Machine). m.tickets) stale_now;
    closed = λ j is. subst (λ (m : Machine). (m.claim j).closed ≡ true) (sym stale_now)
        (closed_with (machine_of old) k ((machine_of old).claim k).result j (inl is));
  }

  stale_closed : IsClosed new k
  stale_closed = subst (λ (m : Machine). (m.claim k).closed ≡ true) (sym stale_now)
      (closed_with (machine_of old) k ((machine_of old).claim k).result k (inr refl))

-- the answer of an open ticket closes it, whether it is held or stale
pub handed_in : (old new : CoreTable) (finished : Finished) (r : Reported) →
    IsOpen old finished.ticket →
    finished.decoded.problem ≡ problem_of old.task (machine_of old) finished.ticket →
    IsReported old new finished r → HasAnswered old new × IsClosed new finished.ticket
handed_in old new finished reported.Held open_ same is = (
  returned old new _ finished.ticket finished.decoded.set is.2,
  returned_closed old new _ finished.ticket finished.decoded.set is.2,
)
handed_in old new finished (reported.Stale ticket current) open_ same is =
    let aside : IsSetAside old new finished.ticket current =
    subst (λ k. IsSetAside old new k current) is.1 is.3 in
    ⊎_elim
    (λ (done : _). (
      stale old new _ finished.ticket done.1,
      stale_closed old new _ finished.ticket done.1,
    ))
    (λ (none : _). absurd (none.0 (record {
      taken = open_.taken;
      open_ = open_.open_;
      other = λ runs. is.0 (record {
        taken = open_.taken;
        running = runs;
        problem = same;
      });
    }))) aside

-- ---- one after another

pub answered_none : (c : CoreTable) → HasAnswered c c
answered_none c = record {
  task = refl;
  retries = refl;
  more = [];
  events = sym (append-nil (events_of c));
  answers = All-nil IsAnswer;
  tickets = refl;
  closed = λ k is. is;
}

pub answered_both : (a b c : CoreTable) → HasAnswered a b → HasAnswered b c → HasAnswered a c
answered_both a b c one two = record {
  task = two.task ∙ one.task;
  retries = two.retries ∙ one.retries;
  more = one.more ++ two.more;
  events = two.events ∙ ap (λ l. l ++ two.more) one.events
      ∙ append_assoc (events_of a) one.more two.more;
  answers = All-append IsAnswer one.more two.more one.answers two.answers;
  tickets = two.tickets ∙ one.tickets;
  closed = λ k is. two.closed k (one.closed k is);
}

pub gone_by_answers : (may_guess : GuessView → Bool → Type 0) (old new : CoreTable) →
    HasAnswered old new → HasGoneOn may_guess old new
gone_by_answers may_guess old new h = record {
  task = h.task;
  retries = h.retries;
  more = h.more;
  events = h.events;
  none_brings = answers_bring h.more h.answers;
  guessed = answers_guess may_guess old.task (machine_of old) h.more h.answers;
}

-- a ticket that is not open was closed
pub closed_before : (c : CoreTable) (k : ℕ) → k < (machine_of c).tickets → (IsOpen c k → ⊥) →
    IsClosed c k
closed_before c k taken none = by ((machine_of c).claim k).closed refl
  where
    by : (closed : Bool) → ((machine_of c).claim k).closed ≡ closed → closed ≡ true
    by true e = refl
    by false e = absurd (none (record { taken = taken; open_ = e }))

-- all tickets below the next number too
pub closed_next : (c : CoreTable) (n : ℕ) → ((k : ℕ) → k < n → IsClosed c k) → IsClosed c n →
    (k : ℕ) → k < n + 1 → IsClosed c k
closed_next c n below here k l =
    ⊎_elim (λ e. subst (IsClosed c) (sym e) here) (λ other. below k (omega (arith, l, other)))
    (cases_eq k n)

-- ---- where all are closed, nothing runs

all_open : (task : Task) (retries : ℕ) → PlanLaws task.graph task.tags task.plan → (m : Machine)
    (events : List Event) → IsSound task m → AreOpen m → IsHistoryFrom task retries m events →
    AreOpen (happen_all task m events)
all_open task retries lawful m [] sound open_ h = open_
all_open task retries lawful m (event ∷ events) sound open_ h =
    all_open task retries lawful (happens task m event) events
    (sound_step task retries lawful m event sound h.0)
    (open_step task retries m event sound h.0 open_) h.1

start_open : AreOpen start
start_open = record { running = λ w k e. absurd cc; beyond = λ k high. refl }

ticket_of : (task : Task) (retries : ℕ) → PlanLaws task.graph task.tags task.plan → (m : Machine)
    (events : List Event) → IsSound task m → IsHistoryFrom task retries m events →
    IsSound task (happen_all task m events)
ticket_of task retries lawful m [] sound h = sound
ticket_of task retries lawful m (event ∷ events) sound h =
    ticket_of task retries lawful (happens task m event) events
    (sound_step task retries lawful m event sound h.0) h.1

pub idle_now : (c : CoreTable) → IsState c → (n : ℕ) → n ≡ (machine_of c).tickets →
    ((k : ℕ) → k < n → IsClosed c k) → IsIdle c
idle_now c state n count closed = record {
  none_runs = λ w k runs.
      let open_ = all_open c.task c.retries (laws c state) start (events_of c)
      (start_sound c.task) start_open state.history in
      let sound = ticket_of c.task c.retries (laws c state) start (events_of c)
      (start_sound c.task) state.history in
      let taken = (sound.current w k (ap held_by runs)).0 in
      true≢false (sym (closed k (omega (arith, taken, count))) ∙ open_.running w k runs);
  answered = λ k l. closed k (omega (arith, l, count));
}

-- ---- the releases of a journal

released_so : (task : Task) (kept : Kept) (m : Machine) (entries : List Entry) →
    filter_map released_in entries
    ≡ releases_in (visible_from task m (map (event_of task kept) entries))
released_so task kept m [] = refl
released_so task kept m (entry.Arrived t ∷ entries) =
    released_so task kept (happens task m (event_of task kept (entry.Arrived t))) entries
released_so task kept m (entry.Claimed k w ∷ entries) =
    released_so task kept (happens task m (event_of task kept (entry.Claimed k w))) entries
released_so task kept m (entry.Held k ∷ entries) =
    released_so task kept (happens task m (event_of task kept (entry.Held k))) entries
released_so task kept m (entry.Stale k current ∷ entries) =
    released_so task kept (happens task m (event_of task kept (entry.Stale k current))) entries
released_so task kept m (entry.Verified x w ∷ entries) =
    released_so task kept (happens task m (event_of task kept (entry.Verified x w))) entries
released_so task kept m (entry.Poisoned x w ∷ entries) =
    released_so task kept (happens task m (event_of task kept (entry.Poisoned x w))) entries
released_so task kept m (entry.Dropped w ∷ entries) =
    released_so task kept (happens task m (event_of task kept (entry.Dropped w))) entries
released_so task kept m (entry.Committed k w ∷ entries) =
    released_so task kept (happens task m (event_of task kept (entry.Committed k w))) entries
released_so task kept m (entry.Released op bit ∷ entries) =
    ap (λ l. (op, bit) ∷ l)
    (released_so task kept (happens task m (Released op bit)) entries)

pub releases_are : (c : CoreTable) (journal : List Entry) (releases : List (ℕ × Bool)) →
    journal ≡ c.journal → releases ≡ filter_map released_in journal → AreReleases c releases
releases_are c journal releases same are =
    are ∙ ap (filter_map released_in) same ∙ released_so c.task c.kept start c.journal

-- ---- no more slots than there are

in_range_after : (task : Task) (retries : ℕ) (m : Machine) (event : Event) →
    m.arrived ≤ task.last_slot + 1 → IsEnabled task retries m event →
    (happens task m event).arrived ≤ task.last_slot + 1
in_range_after task retries m (Arrived t values raws) l may =
    let next = may.0.next in let last = may.0.in_range in omega (arith, next, last)
in_range_after task retries m (Claimed k w links) l may = l
in_range_after task retries m (Returned k set) l may = l
in_range_after task retries m (Stale k) l may = l
in_range_after task retries m (Verified x w) l may =
    let same = (one_keeps task m (Verified x w) tt).arrived in omega (arith, l, same)
in_range_after task retries m (Poisoned x w) l may = l
in_range_after task retries m (Dropped w) l may = l
in_range_after task retries m (Committed k w) l may = l
in_range_after task retries m (Released op bit) l may = l

all_in_range : (task : Task) (retries : ℕ) (m : Machine) (events : List Event) →
    m.arrived ≤ task.last_slot + 1 → IsHistoryFrom task retries m events →
    (happen_all task m events).arrived ≤ task.last_slot + 1
all_in_range task retries m [] l h = l
all_in_range task retries m (event ∷ events) l h =
    all_in_range task retries (happens task m event) events
    (in_range_after task retries m event l h.0) h.1

pub in_range : (c : CoreTable) → IsState c → (machine_of c).arrived ≤ c.task.last_slot + 1
in_range c state = all_in_range c.task c.retries start (events_of c) (omega arith) state.history

-- ---- to rest

module _ (may_guess : GuessView → Bool → Type 0) (old mid new : CoreTable)
    (answered : HasAnswered old mid) (gone : HasGoneOn may_guess mid new) where
  all_gone : HasGoneOn may_guess old new
  all_gone = gone_further may_guess old mid new (gone_by_answers may_guess old mid answered) gone

  pub come : HasComeToRest old (view_of new)
  come = record {
    task = all_gone.task;
    retries = all_gone.retries;
    more = all_gone.more;
    events = all_gone.events;
    none_brings = all_gone.none_brings;
  }

  pub guessed_then : AreAllGuessed may_guess (view_of old) → AreAllGuessed may_guess (view_of new)
  guessed_then all =
      subst (λ task. AreGuessedFrom may_guess task start (events_of new)) (sym all_gone.task)
      (subst (AreGuessedFrom may_guess old.task start) (sym all_gone.events)
      (guessed_append may_guess old.task start (events_of old) all_gone.more all
      all_gone.guessed))
