-- What an entry speaks of stands yet where its journal ends.
use Rattle.std.proofs.Common.{◌≡◌, ◌≤◌, ◌<◌, ℕ, All, List, [], ◌∷◌, Option, None, Some, arith, refl, ap, ◌∙◌}
use Rattle.std.proofs.lemmas.List.Elements.{All-cons, All-nil}
use Rattle.window_model.specs.Decoder.{Task}
use Rattle.window_model.specs.Laws.{PlanLaws}
use Rattle.window_model.specs.Windows.{window_at}
use Rattle.window_model.specs.Speculation.{Claim, Event, Machine, Phase, Waiting, Running, Held, Done, Arrived, Claimed, Committed, Dropped, Poisoned, Released, Returned, Stale, Verified, confirm, done, happen_all, happens, pending, sources_of, standing, start, IsEnabled, IsHistory, IsHistoryFrom}
use Rattle.window_model.proofs.Claims.{done_stays}
use Rattle.window_model.proofs.Soundness.{pending_not_done, sound_law}
use Rattle.window_model.proofs.Tickets.{tickets_confirmed}
use Rattle.window_model.proofs.Updates.{set_other, set_part, set_same}
use Rattle.core_journal.specs.declared.event.Event.{Event as Entry}
use Rattle.core_journal.specs.declared.event.Event.TheVariants as entry
use Rattle.core_journal.specs.Entries.{Kept, event_of, history_of, links_of}
use Rattle.trace_laws.specs.Told.{StandingLaw, StandsYet}
use Rattle.trace_laws.proofs.Told.{have_all, reached, result_is}

-- ---- there are never fewer tickets

tickets_next : (task : Task) (m : Machine) (event : Event) →
    m.tickets ≤ (happens task m event).tickets
tickets_next task m (Arrived t values raws) = omega arith
tickets_next task m (Claimed k w links) = omega arith
tickets_next task m (Returned k set) = omega arith
tickets_next task m (Stale k) = omega arith
tickets_next task m (Verified x w) =
    omega (arith, tickets_confirmed m x (pending (m.phase w)) (standing (m.phase x)))
tickets_next task m (Poisoned x w) = omega arith
tickets_next task m (Dropped w) = omega arith
tickets_next task m (Committed k w) = omega arith
tickets_next task m (Released op bit) = omega arith

tickets_rise : (task : Task) (m : Machine) (events : List Event) →
    m.tickets ≤ (happen_all task m events).tickets
tickets_rise task m [] = omega arith
tickets_rise task m (event ∷ events) =
    omega (arith, tickets_next task m event, tickets_rise task (happens task m event) events)

-- ---- a committed window stays so

phase_confirmed : (m : Machine) (x : ℕ) (one two : Option ℕ) (w : ℕ) →
    (confirm m x one two).phase w ≡ m.phase w
phase_confirmed m x (Some k) (Some j) w = refl
phase_confirmed m x (Some k) None w = refl
phase_confirmed m x None two w = refl

not_done : (phase other : Phase) → phase ≡ other → done other ≡ None → done phase ≡ None
not_done phase other e none = ap done e ∙ none

done_next : (task : Task) (retries : ℕ) (m : Machine) (event : Event) →
    IsEnabled task retries m event → (w k : ℕ) → m.phase w ≡ Done k →
    (happens task m event).phase w ≡ Done k
done_next task retries m (Arrived t values raws) may w k e = e
done_next task retries m (Claimed j x links) may w k e =
    done_stays m.phase x (Running j) (not_done (m.phase x) Waiting may.waiting refl) w k e
done_next task retries m (Returned j set) may w k e =
    done_stays m.phase (m.claim j).window (Held j)
    (not_done (m.phase (m.claim j).window) (Running j) may.running refl) w k e
done_next task retries m (Stale j) may w k e = e
done_next task retries m (Verified x y) may w k e =
    phase_confirmed m x (pending (m.phase y)) (standing (m.phase x)) w ∙ e
done_next task retries m (Poisoned x y) may w k e =
    let compares = may.2 in
    done_stays m.phase y Waiting
    (pending_not_done (m.phase y) compares.own compares.is_pending) w k e
done_next task retries m (Dropped y) may w k e =
    done_stays m.phase y Waiting (pending_not_done (m.phase y) may.own may.is_pending) w k e
done_next task retries m (Committed j x) may w k e =
    done_stays m.phase x (Done j) (not_done (m.phase x) (Held j) may.held refl) w k e
done_next task retries m (Released op bit) may w k e = e

done_on : (task : Task) (retries : ℕ) (m : Machine) (events : List Event) →
    IsHistoryFrom task retries m events → (w k : ℕ) → m.phase w ≡ Done k →
    (happen_all task m events).phase w ≡ Done k
done_on task retries m [] h w k e = e
done_on task retries m (event ∷ events) h w k e =
    done_on task retries (happens task m event) events h.1 w k
    (done_next task retries m event h.0 w k e)

-- ---- a ticket stays that of its window

window_confirmed : (m : Machine) (x : ℕ) (own other : Option ℕ) (k : ℕ) →
    ((confirm m x own other).claim k).window ≡ (m.claim k).window
window_confirmed m x None other k = refl
window_confirmed m x (Some i) None k = refl
window_confirmed m x (Some i) (Some j) k =
    set_part (λ (c : Claim). c.window) m.claim i _ refl k

window_next : (task : Task) (retries : ℕ) (m : Machine) (event : Event) →
    IsEnabled task retries m event → (k : ℕ) → k < m.tickets →
    ((happens task m event).claim k).window ≡ (m.claim k).window
window_next task retries m (Arrived t values raws) may k l = refl
window_next task retries m (Claimed j w links) may k l =
    ap (λ (c : Claim). c.window) (set_other m.claim j _ k (λ same. let number = may.number in
    omega (arith, number, same, l)))
window_next task retries m (Returned j set) may k l =
    set_part (λ (c : Claim). c.window) m.claim j _ refl k
window_next task retries m (Stale j) may k l =
    set_part (λ (c : Claim). c.window) m.claim j _ refl k
window_next task retries m (Verified x w) may k l =
    window_confirmed m x (pending (m.phase w)) (standing (m.phase x)) k
window_next task retries m (Poisoned x w) may k l = refl
window_next task retries m (Dropped w) may k l = refl
window_next task retries m (Committed j w) may k l = refl
window_next task retries m (Released op bit) may k l = refl

window_on : (task : Task) (retries : ℕ) (m : Machine) (events : List Event) →
    IsHistoryFrom task retries m events → (k : ℕ) → k < m.tickets →
    ((happen_all task m events).claim k).window ≡ (m.claim k).window
window_on task retries m [] h k l = refl
window_on task retries m (event ∷ events) h k l =
    let rises = tickets_next task m event in
    window_on task retries (happens task m event) events h.1 k (omega (arith, l, rises))
    ∙ window_next task retries m event h.0 k l

-- ---- entry by entry

-- of an entry, without its result
abbrev Remains : Task → Kept → Machine → Entry → Type 0
Remains task kept m (entry.Claimed k w) =
    (k < m.tickets) × ((m.claim k).window ≡ w)
    × (sources_of (links_of kept k) ≡ (window_at task.plan w).deps)
Remains task kept m (entry.Committed k w) = m.phase w ≡ Done k
Remains task kept m _ = Unit {0}

first_remains : (task : Task) (retries : ℕ) (kept : Kept) (m : Machine) (e : Entry)
    (events : List Event) → IsEnabled task retries m (event_of task kept e) →
    IsHistoryFrom task retries (happens task m (event_of task kept e)) events →
    Remains task kept (happen_all task (happens task m (event_of task kept e)) events) e
first_remains task retries kept m (entry.Arrived t) events may h = tt
first_remains task retries kept m (entry.Claimed k w) events may h =
    let next = happens task m (event_of task kept (entry.Claimed k w)) in
    let number = may.number in
    let now : k < next.tickets = omega (arith, number) in
    let rises = tickets_rise task next events in (
      omega (arith, now, rises),
      window_on task retries next events h k now
          ∙ ap (λ (c : Claim). c.window) (set_same m.claim k _),
      may.sources,
    )
first_remains task retries kept m (entry.Held k) events may h = tt
first_remains task retries kept m (entry.Stale k current) events may h = tt
first_remains task retries kept m (entry.Verified x w) events may h = tt
first_remains task retries kept m (entry.Poisoned x w) events may h = tt
first_remains task retries kept m (entry.Dropped w) events may h = tt
first_remains task retries kept m (entry.Committed k w) events may h =
    done_on task retries (happens task m (Committed k w)) events h w k
    (set_same m.phase w (Done k))
first_remains task retries kept m (entry.Released op bit) events may h = tt

all_remain : (task : Task) (retries : ℕ) (kept : Kept) (m : Machine) (entries : List Entry) →
    IsHistoryFrom task retries m (history_of task kept entries) →
    All (Remains task kept (happen_all task m (history_of task kept entries))) entries
all_remain task retries kept m [] h = All-nil (Remains task kept m)
all_remain task retries kept m (e ∷ entries) h =
    All-cons
    (Remains task kept (happen_all task m (history_of task kept (e ∷ entries)))) e entries
    (first_remains task retries kept m e (history_of task kept entries) h.0 h.1)
    (all_remain task retries kept (happens task m (event_of task kept e)) entries h.1)

with_result : (task : Task) (retries : ℕ) (kept : Kept) (entries : List Entry) →
    PlanLaws task.graph task.tags task.plan →
    IsHistory task retries (history_of task kept entries) → (e : Entry) →
    Remains task kept (reached task kept entries) e →
    StandsYet task kept (reached task kept entries) e
with_result task retries kept entries laws h (entry.Arrived t) r = tt
with_result task retries kept entries laws h (entry.Claimed k w) r = r
with_result task retries kept entries laws h (entry.Held k) r = tt
with_result task retries kept entries laws h (entry.Stale k current) r = tt
with_result task retries kept entries laws h (entry.Verified x w) r = tt
with_result task retries kept entries laws h (entry.Poisoned x w) r = tt
with_result task retries kept entries laws h (entry.Dropped w) r = tt
with_result task retries kept entries laws h (entry.Committed k w) r =
    let sound = sound_law task retries (history_of task kept entries) laws h in (
      r,
      result_is kept k ((reached task kept entries).claim k).result
          (have_all task kept entries k) (sound.least w k (ap standing r)).0,
    )
with_result task retries kept entries laws h (entry.Released op bit) r = tt

pub standing_law : StandingLaw
standing_law task retries kept entries laws h k d within =
    with_result task retries kept entries laws h _
    (all_remain task retries kept start entries h k d within)
