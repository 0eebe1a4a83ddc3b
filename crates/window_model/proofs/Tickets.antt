-- Tickets: what stays of them, that each is closed once, and what the counts and releases rest on.
use Rattle.std.proofs.Common.{◌≡◌, ℕ, ◌+◌, ◌<◌, ◌≤◌, ◌==◌, ◌⊎◌, ⊎_elim, inl, inr, Bool, true, false, cond, List, [], ◌∷◌, refl, sym, ap, ◌∙◌, subst, map, arith, Option, Some, None, count_by, eq-eqb}
use Rattle.std.proofs.lemmas.Bool.{cases_eq, ne_eqb}
use Rattle.std.proofs.lemmas.List.Sums.{sum_by-cons}
use Rattle.std.proofs.lemmas.Option.{none-some, same_Some}
use Rattle.graph_model.specs.Members.{In}
use Rattle.graph_model.specs.Parity.{◌⊕◌, parity}
use Rattle.graph_model.proofs.Elements.{append_left, append_right}
use Rattle.graph_model.proofs.Members.{map_same_in}
use Rattle.window_model.specs.Decoder.{Task, Release, set_at}
use Rattle.window_model.specs.Windows.{window_at, window_count, slot_of, places}
use Rattle.window_model.specs.Parts.{part_of}
use Rattle.window_model.specs.Laws.{PlanLaws}
use Rattle.window_model.specs.Speculation.{Link, Claim, Phase, Waiting, Running, Held, Done, Machine, Event, Arrived, Claimed, Returned, Stale, Verified, Poisoned, Dropped, Committed, Released, held_by, pending, standing, bit_at, defect_of, detector_slots, start, confirm, happens, happen_all, MayClaim, IsEnabled, IsHistoryFrom, visible_step, visible_from}
use Rattle.window_model.specs.TicketLaws.{IsSound, ResultLaw, IsCovered, CoveredLaw, StillLaw, closes, ClosedLaw, is_claim, TicketLaw, GivenLaw, problem_of}
use Rattle.window_model.proofs.Updates.{set_same, set_other, set_cases, set_part, renamed_parity}
use Rattle.window_model.proofs.Soundness.{sound_step, start_sound, values_stay}
use Rattle.window_model.proofs.PartLaws.{part_law}
use Rattle.window_model.proofs.Histories.{happen_all-append, history_front, history_back}

-- ---- what stays of tickets: their windows, what their links explain, and the values that have
-- arrived

record KeepsTickets (task : Task) (m n : Machine) : Type 0 where
  more : m.tickets ≤ n.tickets
  later : m.arrived ≤ n.arrived
  window : (k : ℕ) → k < m.tickets → (n.claim k).window ≡ (m.claim k).window
  explained : (test : ℕ → List Bool → Bool) (k : ℕ) → k < m.tickets →
      parity (λ (link : Link). test link.source link.bits) (n.claim k).links
      ≡ parity (λ (link : Link). test link.source link.bits) (m.claim k).links
  value : (v : ℕ) → slot_of task.tags v < m.arrived → n.value v ≡ m.value v

keeps_itself : (task : Task) (m : Machine) → KeepsTickets task m m
keeps_itself task m = record {
  more = omega arith;
  later = omega arith;
  window = λ k taken. refl;
  explained = λ test k taken. refl;
  value = λ v low. refl;
}

keeps_both : (task : Task) (l m n : Machine) → KeepsTickets task l m → KeepsTickets task m n →
    KeepsTickets task l n
keeps_both task l m n one two = record {
  more = omega (arith, one.more, two.more);
  later = omega (arith, one.later, two.later);
  window = λ k taken. two.window k (omega (arith, taken, one.more)) ∙ one.window k taken;
  explained = λ test k taken. two.explained test k (omega (arith, taken, one.more))
      ∙ one.explained test k taken;
  value = λ v low. two.value v (omega (arith, low, one.later)) ∙ one.value v low;
}

-- a claim that keeps its window and links takes the place of a ticket's
keeps_with : (task : Task) (m : Machine) (k : ℕ) (new : Claim) (phase : ℕ → Phase) →
    new.window ≡ (m.claim k).window →
    ((test : ℕ → List Bool → Bool) → parity (λ (link : Link). test link.source link.bits) new.links
    ≡ parity (λ (link : Link). test link.source link.bits) (m.claim k).links) →
    KeepsTickets task m (record m { claim = set_at m.claim k new; phase = phase })
keeps_with task m k new phase same_window same_links = record {
  more = omega arith;
  later = omega arith;
  window = λ j taken. set_part (λ (c : Claim). c.window) m.claim k new same_window j;
  explained = λ test j taken. set_part (λ (c : Claim). parity (λ (link : Link).
      test link.source link.bits) c.links) m.claim k new (same_links test) j;
  value = λ v low. refl;
}

keeps_confirmed : (task : Task) (m : Machine) (x : ℕ) (one two : Option ℕ) →
    KeepsTickets task m (confirm m x one two)
keeps_confirmed task m x (Some k) (Some j) =
    keeps_with task m k _ m.phase refl (λ test. renamed_parity test x j (m.claim k).links)
keeps_confirmed task m x (Some k) None = keeps_itself task m
keeps_confirmed task m x None two = keeps_itself task m

keeps_claimed : (task : Task) (retries : ℕ) (m : Machine) (k w : ℕ) (links : List Link) →
    MayClaim task retries m k w links → KeepsTickets task m (happens task m (Claimed k w links))
keeps_claimed task retries m k w links may = record {
  more = omega arith;
  later = omega arith;
  window = λ j taken. ap (λ (c : Claim). c.window) (other j taken);
  explained = λ test j taken. ap (λ (c : Claim).
      parity (λ (link : Link). test link.source link.bits) c.links) (other j taken);
  value = λ v low. refl;
}
  where
    other : (j : ℕ) → j < m.tickets → (happens task m (Claimed k w links)).claim j ≡ m.claim j
    other j taken = set_other m.claim k _ j (λ e. let n = may.number in omega (arith, e, n, taken))

keeps_step : (task : Task) (retries : ℕ) (m : Machine) (event : Event) →
    IsEnabled task retries m event → KeepsTickets task m (happens task m event)
keeps_step task retries m (Arrived t values raws) may = record {
  more = omega arith;
  later = omega arith;
  window = λ k taken. refl;
  explained = λ test k taken. refl;
  value = λ v low. values_stay (detector_slots task) t values m.value v (let n = may.0.next in
      omega (arith, n, low));
}
keeps_step task retries m (Claimed k w links) may = keeps_claimed task retries m k w links may
keeps_step task retries m (Returned k set) may = keeps_with task m k _ _ refl (λ test. refl)
keeps_step task retries m (Stale k) may = keeps_with task m k _ m.phase refl (λ test. refl)
keeps_step task retries m (Verified x w) may =
    keeps_confirmed task m x (pending (m.phase w)) (standing (m.phase x))
keeps_step task retries m (Poisoned x w) may = record {
  more = omega arith;
  later = omega arith;
  window = λ k taken. refl;
  explained = λ test k taken. refl;
  value = λ v low. refl;
}
keeps_step task retries m (Dropped w) may = record {
  more = omega arith;
  later = omega arith;
  window = λ k taken. refl;
  explained = λ test k taken. refl;
  value = λ v low. refl;
}
keeps_step task retries m (Committed k w) may = record {
  more = omega arith;
  later = omega arith;
  window = λ k taken. refl;
  explained = λ test k taken. refl;
  value = λ v low. refl;
}
keeps_step task retries m (Released op bit) may = record {
  more = omega arith;
  later = omega arith;
  window = λ k taken. refl;
  explained = λ test k taken. refl;
  value = λ v low. refl;
}

keeps_all : (task : Task) (retries : ℕ) (m : Machine) (events : List Event) →
    IsHistoryFrom task retries m events → KeepsTickets task m (happen_all task m events)
keeps_all task retries m [] h = keeps_itself task m
keeps_all task retries m (event ∷ events) h =
    keeps_both task m (happens task m event) _ (keeps_step task retries m event h.0)
    (keeps_all task retries (happens task m event) events h.1)

-- ---- every ticket is covered

covered_stays : (task : Task) (m n : Machine) → KeepsTickets task m n → (k : ℕ) → k < m.tickets →
    IsCovered task m k → IsCovered task n k
covered_stays task m n keeps k taken c = record {
  in_range = subst (λ w. w < window_count task.plan) (sym (keeps.window k taken)) c.in_range;
  arrived = subst (λ w. (window_at task.plan w).last < n.arrived)
      (sym (keeps.window k taken)) (let a = c.arrived in omega (arith, a, keeps.later));
}

covered_same : (task : Task) (m n : Machine) → KeepsTickets task m n → n.tickets ≡ m.tickets →
    ((k : ℕ) → k < m.tickets → IsCovered task m k) → (k : ℕ) → k < n.tickets → IsCovered task n k
covered_same task m n keeps same c k taken = let old : k < m.tickets = omega (arith, taken, same) in
    covered_stays task m n keeps k old (c k old)

pub tickets_confirmed : (m : Machine) (x : ℕ) (one two : Option ℕ) → (confirm m x one two).tickets
    ≡ m.tickets
tickets_confirmed m x (Some k) (Some j) = refl
tickets_confirmed m x (Some k) None = refl
tickets_confirmed m x None two = refl

pub covered_step : (task : Task) (retries : ℕ) (m : Machine) (event : Event) →
    IsEnabled task retries m event → ((k : ℕ) → k < m.tickets → IsCovered task m k) → (k : ℕ) →
    k < (happens task m event).tickets → IsCovered task (happens task m event) k
covered_step task retries m (Arrived t values raws) may c =
    covered_same task m _ (keeps_step task retries m (Arrived t values raws) may) refl c
covered_step task retries m (Claimed k w links) may c = at
  where
    at : (j : ℕ) → j < m.tickets + 1 → IsCovered task (happens task m (Claimed k w links)) j
    at j taken =
        ⊎_elim
        (λ e.
        let new : (happens task m (Claimed k w links)).claim j ≡ record {
          window = w;
          links = links;
          result = None;
          closed = false;
        } = ap (happens task m (Claimed k w links)).claim e
        ∙ set_same m.claim k _ in
        let window : ((happens task m (Claimed k w links)).claim j).window ≡ w =
        ap (λ (d : Claim). d.window) new in
        record {
          in_range = subst (λ x. x < window_count task.plan) (sym window) may.in_range;
          arrived = subst (λ x. (window_at task.plan x).last < m.arrived) (sym window) may.arrived;
        })
        (λ ne.
        let old : j < m.tickets = (let n = may.number in omega (arith, n, ne, taken)) in
        covered_stays task m _ (keeps_claimed task retries m k w links may) j old (c j old))
        (cases_eq j k)
covered_step task retries m (Returned k set) may c =
    covered_same task m _ (keeps_step task retries m (Returned k set) may) refl c
covered_step task retries m (Stale k) may c =
    covered_same task m _ (keeps_step task retries m (Stale k) may) refl c
covered_step task retries m (Verified x w) may c = covered_same task m _ (keeps_step task retries m
    (Verified x w) may) (tickets_confirmed m x (pending (m.phase w)) (standing (m.phase x))) c
covered_step task retries m (Poisoned x w) may c =
    covered_same task m _ (keeps_step task retries m (Poisoned x w) may) refl c
covered_step task retries m (Dropped w) may c =
    covered_same task m _ (keeps_step task retries m (Dropped w) may) refl c
covered_step task retries m (Committed k w) may c =
    covered_same task m _ (keeps_step task retries m (Committed k w) may) refl c
covered_step task retries m (Released op bit) may c =
    covered_same task m _ (keeps_step task retries m (Released op bit) may) refl c

covered_all : (task : Task) (retries : ℕ) (m : Machine) (events : List Event) →
    IsHistoryFrom task retries m events → ((k : ℕ) → k < m.tickets → IsCovered task m k) →
    (k : ℕ) → k < (happen_all task m events).tickets → IsCovered task (happen_all task m events) k
covered_all task retries m [] h c = c
covered_all task retries m (event ∷ events) h c = covered_all task retries (happens task m event)
    events h.1 (covered_step task retries m event h.0 c)

pub covered_law : CoveredLaw
covered_law task retries events k laws h taken =
    covered_all task retries start events h (λ j l. absurd (omega (arith, l))) k taken

-- ---- a ticket's problem stays

same_problem : (task : Task) → PlanLaws task.graph task.tags task.plan → (m n : Machine) →
    KeepsTickets task m n → (k : ℕ) → k < m.tickets → IsCovered task m k → problem_of task n k
    ≡ problem_of task m k
same_problem task laws m n keeps k taken covered =
    λ i. record { part = part_of task.graph task.plan (same i); defects = defects i }
  where
    same : (n.claim k).window ≡ (m.claim k).window
    same = keeps.window k taken

    explains : ℕ → Claim → ℕ → Bool
    explains w claim v = parity (λ (link : Link). bit_at (places task.graph task.plan link.source w)
        link.bits v) claim.links

    defect : (v : ℕ) → slot_of task.tags v ≤ (window_at task.plan (m.claim k).window).last →
        defect_of task n.value (n.claim k) v ≡ defect_of task m.value (m.claim k) v
    defect v low =
        ap (λ b. b ⊕ explains (n.claim k).window (n.claim k) v)
        (keeps.value v (let a = covered.arrived in omega (arith, a, low)))
        ∙ ap (λ w. m.value v ⊕ explains w (n.claim k) v) same
        ∙ ap (λ b. m.value v ⊕ b) (keeps.explained (λ source bits.
        bit_at (places task.graph task.plan source (m.claim k).window) bits v) k taken)

    defects : map (defect_of task n.value (n.claim k))
        (window_at task.plan (n.claim k).window).detectors ≡ map
        (defect_of task m.value (m.claim k)) (window_at task.plan (m.claim k).window).detectors
    defects =
        ap (λ w. map (defect_of task n.value (n.claim k)) (window_at task.plan w).detectors) same
        ∙ map_same_in (defect_of task n.value (n.claim k)) (defect_of task m.value (m.claim k))
        (window_at task.plan (m.claim k).window).detectors
        (λ v mem. defect v (laws.last_covers (m.claim k).window v mem))

pub still_law : StillLaw
still_law task retries before later k laws h taken =
    let m = happen_all task start before in
    ap (λ n. problem_of task n k) (happen_all-append task start before later)
    ∙ same_problem task laws m (happen_all task m later)
    (keeps_all task retries m later (history_back task retries start before later h)) k taken
    (covered_law task retries before k laws (history_front task retries start before later h) taken)

-- ---- a ticket is closed once

-- a running ticket is open, and so is one that is not taken yet
pub record AreOpen (m : Machine) : Type 0 where
  pub running : (w k : ℕ) → m.phase w ≡ Running k → (m.claim k).closed ≡ false
  pub beyond : (k : ℕ) → m.tickets ≤ k → (m.claim k).closed ≡ false

running_same : (a b : ℕ) → Running a ≡ Running b → a ≡ b
running_same a b e = cc

closed_confirmed : (m : Machine) (x : ℕ) (one two : Option ℕ) (k : ℕ) →
    ((confirm m x one two).claim k).closed ≡ (m.claim k).closed
closed_confirmed m x (Some j) (Some i) k = set_part (λ (c : Claim). c.closed) m.claim j _ refl k
closed_confirmed m x (Some j) None k = refl
closed_confirmed m x None two k = refl

phase_confirmed : (m : Machine) (x : ℕ) (one two : Option ℕ) (w : ℕ) → (confirm m x one two).phase w
    ≡ m.phase w
phase_confirmed m x (Some j) (Some i) w = refl
phase_confirmed m x (Some j) None w = refl
phase_confirmed m x None two w = refl

-- a phase changes to one that doesn't run
open_phase : (m : Machine) (w : ℕ) (new : Phase) → ((k : ℕ) → new ≡ Running k → ⊥) → AreOpen m →
    (x j : ℕ) → set_at m.phase w new x ≡ Running j → (m.claim j).closed ≡ false
open_phase m w new idle open_ x j e = ⊎_elim (λ here. absurd (idle j here.1)) (λ old.
    open_.running x j old.1) (set_cases (λ p. p ≡ Running j) m.phase w new x e)

waits : (k : ℕ) → Waiting ≡ Running k → ⊥
waits k e = cc

holds : (i k : ℕ) → Held i ≡ Running k → ⊥
holds i k e = cc

is_done : (i k : ℕ) → Done i ≡ Running k → ⊥
is_done i k e = cc

pub open_step : (task : Task) (retries : ℕ) (m : Machine) (event : Event) → IsSound task m →
    IsEnabled task retries m event → AreOpen m → AreOpen (happens task m event)
open_step task retries m (Arrived t values raws) s may open_ =
    record { running = open_.running; beyond = open_.beyond }
open_step task retries m (Claimed k w links) s may open_ = record {
  running = λ x j e. ⊎_elim
      (λ here. ap (λ i. ((happens task m (Claimed k w links)).claim i).closed)
      (sym (running_same k j here.1))
      ∙ ap (λ (c : Claim). c.closed) (set_same m.claim k (record {
        window = w;
        links = links;
        result = None;
        closed = false;
      })))
      (λ old. let c = s.current x j (ap held_by old.1) in
      ap (λ (d : Claim). d.closed) (set_other m.claim k _ j (λ same. let n = may.number in
      omega (arith, same, n, c.0))) ∙ open_.running x j old.1)
      (set_cases (λ p. p ≡ Running j) m.phase w (Running k) x e);
  beyond = λ j high. ap (λ (d : Claim). d.closed) (set_other m.claim k _ j (λ same.
      let n = may.number in omega (arith, same, n, high))) ∙ open_.beyond j (omega (arith, high));
}
open_step task retries m (Returned k set) s may open_ = record {
  running = λ x j e. ⊎_elim
      (λ here. absurd (holds k j here.1))
      (λ old. let c = s.current x j (ap held_by old.1) in
      ap (λ (d : Claim). d.closed) (set_other m.claim k _ j (λ same. old.0 (sym c.1
      ∙ ap (λ i. (m.claim i).window) same))) ∙ open_.running x j old.1)
      (set_cases (λ p. p ≡ Running j) m.phase (m.claim k).window (Held k) x e);
  beyond = λ j high. ap (λ (d : Claim). d.closed) (set_other m.claim k _ j (λ same.
      let n = may.taken in omega (arith, same, n, high))) ∙ open_.beyond j high;
}
open_step task retries m (Stale k) s may open_ = record {
  running = λ x j e. let c = s.current x j (ap held_by e) in
      ap (λ (d : Claim). d.closed) (set_other m.claim k _ j (λ same. may.other
      (ap (λ i. m.phase (m.claim i).window) (sym same) ∙ ap m.phase c.1 ∙ e ∙ ap Running same)))
      ∙ open_.running x j e;
  beyond = λ j high. ap (λ (d : Claim). d.closed) (set_other m.claim k _ j (λ same.
      let n = may.taken in omega (arith, same, n, high))) ∙ open_.beyond j high;
}
open_step task retries m (Verified x w) s may open_ = record {
  running = λ y j e. closed_confirmed m x (pending (m.phase w)) (standing (m.phase x)) j
      ∙ open_.running y j (sym (phase_confirmed m x (pending (m.phase w)) (standing (m.phase x)) y)
      ∙ e);
  beyond = λ j high. closed_confirmed m x (pending (m.phase w)) (standing (m.phase x)) j
      ∙ open_.beyond j (let t = tickets_confirmed m x (pending (m.phase w))
      (standing (m.phase x)) in omega (arith, t, high));
}
open_step task retries m (Poisoned x w) s may open_ =
    record { running = open_phase m w Waiting waits open_; beyond = open_.beyond }
open_step task retries m (Dropped w) s may open_ =
    record { running = open_phase m w Waiting waits open_; beyond = open_.beyond }
open_step task retries m (Committed k w) s may open_ =
    record { running = open_phase m w (Done k) (is_done k) open_; beyond = open_.beyond }
open_step task retries m (Released op bit) s may open_ =
    record { running = open_.running; beyond = open_.beyond }

abbrev tally : Bool → ℕ
tally b = cond b 1 0

-- where one ticket is closed, that was open
tally_closed : (m : Machine) (k : ℕ) (new : Claim) → (m.claim k).closed ≡ false →
    new.closed ≡ true → (j : ℕ) → tally (k == j) + tally (m.claim j).closed
    ≡ tally (set_at m.claim k new j).closed
tally_closed m k new was is j =
    ⊎_elim
    (λ e.
    let a : tally (k == j) ≡ 1 = ap tally (eq-eqb k j (sym e)) in
    let b : tally (m.claim j).closed ≡ 0 = ap (λ i. tally (m.claim i).closed) e ∙ ap tally was in
    let c : tally (set_at m.claim k new j).closed ≡ 1 =
    ap (λ i. tally (set_at m.claim k new i).closed) e
    ∙ ap (λ (d : Claim). tally d.closed) (set_same m.claim k new) ∙ ap tally is in
    omega (arith, a, b, c))
    (λ ne.
    let a : tally (k == j) ≡ 0 = ap tally (ne_eqb k j (λ e. ne (sym e))) in
    let c : tally (set_at m.claim k new j).closed ≡ tally (m.claim j).closed =
    ap (λ (d : Claim). tally d.closed) (set_other m.claim k new j ne) in
    omega (arith, a, c))
    (cases_eq j k)

tally_claimed : (m : Machine) (k : ℕ) (new : Claim) → (m.claim k).closed ≡ false →
    new.closed ≡ false → (j : ℕ) → tally (m.claim j).closed ≡ tally (set_at m.claim k new j).closed
tally_claimed m k new was is j =
    ap tally (sym (set_part (λ (c : Claim). c.closed) m.claim k new (is ∙ sym was) j))

tally_step : (task : Task) (retries : ℕ) (m : Machine) (event : Event) →
    IsEnabled task retries m event → AreOpen m → (j : ℕ) → tally (closes j event)
    + tally (m.claim j).closed ≡ tally ((happens task m event).claim j).closed
tally_step task retries m (Arrived t values raws) may open_ j = omega arith
tally_step task retries m (Claimed k w links) may open_ j =
    let c = tally_claimed m k (record { window = w; links = links; result = None; closed = false })
    (open_.beyond k (let n = may.number in omega (arith, n))) refl j in omega (arith, c)
tally_step task retries m (Returned k set) may open_ j =
    tally_closed m k _ (open_.running (m.claim k).window k may.running) refl j
tally_step task retries m (Stale k) may open_ j = tally_closed m k _ may.open_ refl j
tally_step task retries m (Verified x w) may open_ j =
    let c : tally ((happens task m (Verified x w)).claim j).closed ≡ tally (m.claim j).closed =
    ap tally (closed_confirmed m x (pending (m.phase w)) (standing (m.phase x)) j) in
    omega (arith, c)
tally_step task retries m (Poisoned x w) may open_ j = omega arith
tally_step task retries m (Dropped w) may open_ j = omega arith
tally_step task retries m (Committed k w) may open_ j = omega arith
tally_step task retries m (Released op bit) may open_ j = omega arith

tally_all : (task : Task) (retries : ℕ) → PlanLaws task.graph task.tags task.plan →
    (m : Machine) (events : List Event) (j : ℕ) → IsSound task m → AreOpen m →
    IsHistoryFrom task retries m events →
    count_by (closes j) events + tally (m.claim j).closed
    ≡ tally ((happen_all task m events).claim j).closed
tally_all task retries laws m [] j s open_ h = omega arith
tally_all task retries laws m (event ∷ events) j s open_ h =
    let rest = tally_all task retries laws (happens task m event) events j (sound_step task retries
    laws m event s h.0) (open_step task retries m event s h.0 open_) h.1 in
    let one = tally_step task retries m event h.0 open_ j in
    omega (arith, rest, one, sum_by-cons (λ e. tally (closes j e)) event events)

pub closed_law : ClosedLaw
closed_law task retries events k laws h =
    let all = tally_all task retries laws start events k (start_sound
    task) (record { running = λ w j e. refl; beyond = λ j high. refl }) h in omega (arith, all)

-- ---- how many tickets

ticket_step : (task : Task) (m : Machine) (event : Event) → tally (is_claim event) + m.tickets
    ≡ (happens task m event).tickets
ticket_step task m (Arrived t values raws) = omega arith
ticket_step task m (Claimed k w links) = omega arith
ticket_step task m (Returned k set) = omega arith
ticket_step task m (Stale k) = omega arith
ticket_step task m (Verified x w) =
    let t = tickets_confirmed m x (pending (m.phase w)) (standing (m.phase x)) in omega (arith, t)
ticket_step task m (Poisoned x w) = omega arith
ticket_step task m (Dropped w) = omega arith
ticket_step task m (Committed k w) = omega arith
ticket_step task m (Released op bit) = omega arith

tickets_all : (task : Task) (m : Machine) (events : List Event) →
    count_by is_claim events + m.tickets ≡ (happen_all task m events).tickets
tickets_all task m [] = omega arith
tickets_all task m (event ∷ events) =
    let rest = tickets_all task (happens task m event) events in
    let one = ticket_step task m event in
    omega (arith, rest, one, sum_by-cons (λ e. tally (is_claim e)) event events)

pub ticket_law : TicketLaw
ticket_law task events = let all = tickets_all task start events in omega (arith, all)

-- ---- releases

released_confirmed : (m : Machine) (x : ℕ) (one two : Option ℕ) → (confirm m x one two).released
    ≡ m.released
released_confirmed m x (Some k) (Some j) = refl
released_confirmed m x (Some k) None = refl
released_confirmed m x None two = refl

abbrev IsGiven : Task → Machine → Event → ℕ → Bool → Type 0
IsGiven task m event op bit = (event ≡ Released op bit)
    × (visible_step task m event ≡ Release op bit ∷ [])

given_step : (task : Task) (m : Machine) (event : Event) (op : ℕ) (bit : Bool) →
    (happens task m event).released op ≡ Some bit → IsGiven task m event op bit
    ⊎ (m.released op ≡ Some bit)
given_step task m (Arrived t values raws) op bit e = inr e
given_step task m (Claimed k w links) op bit e = inr e
given_step task m (Returned k set) op bit e = inr e
given_step task m (Stale k) op bit e = inr e
given_step task m (Verified x w) op bit e =
    inr (sym (ap (λ f. f op) (released_confirmed m x (pending (m.phase w)) (standing (m.phase x))))
    ∙ e)
given_step task m (Poisoned x w) op bit e = inr e
given_step task m (Dropped w) op bit e = inr e
given_step task m (Committed k w) op bit e = inr e
given_step task m (Released other value) op bit e =
    ⊎_elim (λ here. let same : value ≡ bit = same_Some value bit here.1 in
    inl (
      ap (λ b. Released other b) same ∙ ap (λ o. Released o bit) (sym here.0),
      ap (λ b. Release other b ∷ []) same ∙ ap (λ o. Release o bit ∷ []) (sym here.0),
    ))
    (λ old. inr old.1)
    (set_cases (λ o. o ≡ Some bit) m.released other (Some value) op e)

given_all : (task : Task) (m : Machine) (events : List Event) (op : ℕ) (bit : Bool) →
    (happen_all task m events).released op ≡ Some bit →
    (m.released op ≡ Some bit)
    ⊎ (In (Released op bit) events × In (Release op bit) (visible_from task m events))
given_all task m [] op bit e = inl e
given_all task m (event ∷ events) op bit e =
    ⊎_elim
    (λ before. ⊎_elim
    (λ (now : IsGiven task m event op bit). inr (
      inl now.0,
      append_left (visible_step task m event) (visible_from task (happens task m event) events)
          (Release op bit) (subst (In (Release op bit)) (sym now.1) (inl refl)),
    ))
    (λ old. inl old)
    (given_step task m event op bit before))
    (λ later. inr (
      inr later.0,
      append_right (visible_step task m event)
          (visible_from task (happens task m event) events) (Release op bit) later.1,
    ))
    (given_all task (happens task m event) events op bit e)

pub given_law : GivenLaw
given_law task events op bit e = ⊎_elim (λ none_. absurd (none-some bit none_)) (λ given. given)
    (given_all task start events op bit e)

-- ---- results

pub result_law : ResultLaw
result_law task order commit buffer graph each_tag planned m k set within =
    part_law task.graph task.tags order commit buffer task.plan graph each_tag planned
    (m.claim k).window within (defect_of task m.value (m.claim k)) set
