-- Which windows may be claimed.
use Rattle.std.proofs.Common.{◌≡◌, ℕ, ◌+◌, ◌<◌, ◌&&◌, ◌||◌, ⊎_elim, inl, inr, Bool, true, false, nat_lt, List, [], ◌∷◌, refl, sym, ap, ◌∙◌, map, length, get_or, replicate, arith, Option, Some, None, IsSome, is_some, is_none, All, MatchOption, count_by}
use Rattle.std.specs.List.{list_all}
use Rattle.std.proofs.lemmas.Bool.{and_parts, and_from, or_cases, or_left, or_right, false≢true, ltb-true, lt-ltb}
use Rattle.std.proofs.lemmas.List.{length-replicate}
use Rattle.std.proofs.lemmas.List.Elements.{All-map}
use Rattle.std.proofs.lemmas.List.Sums.{sum_by-cons}
use Rattle.window_model.specs.Decoder.{Task}
use Rattle.window_model.specs.Laws.{PlanLaws}
use Rattle.window_model.specs.Windows.{window_at, window_count, places}
use Rattle.window_model.specs.declared.Origin.{Origin}
use Rattle.window_model.specs.declared.Origin.TheVariants.{Guess, Ticket}
use Rattle.window_model.specs.Speculation.{Link, Phase, Waiting, Running, Held, Done, Machine, Event, Claimed, standing, done as done_ticket, flips_at, result_of, start, happens, happen_all, IsNewLink, IsHistory, IsHistoryFrom}
use Rattle.window_model.specs.SpeculationLaws.{is_claim_of}
use Rattle.window_model.specs.TicketLaws.{IsSound}
use Rattle.window_model.specs.TurnLaws.{CanClaim}
use Rattle.window_model.proofs.Soundness.{start_sound, sound_step}
use Rattle.window_model.proofs.Claims.{busy, spent, cost, spent_is}
use Rattle.window_model.proofs.FirstTurns.{first_turn_law}
use Rattle.poison_cascade.specs.Books.{TicketBook, entry_at}
use Rattle.cascade_laws.specs.Mirror.{IsBookOf, live_of}
use Rattle.cascade_laws.specs.MirrorLaws.{reached}
use Rattle.cascade_laws.specs.Turns.{is_done, flag, AreDone, can_claim, ClaimLaw, FirstClaimLaw}
use Rattle.cascade_laws.proofs.Events.{live_is}
use Rattle.cascade_laws.proofs.Laws.{sound, inside, claims_of}
use Rattle.cascade_laws.proofs.FirstTurns.{all_from, all_to, flag_is}

-- ---- a window was claimed as often as it was given up, and once more where it has a ticket

spent_all : (task : Task) (retries : ℕ) → PlanLaws task.graph task.tags task.plan →
    (m : Machine) (events : List Event) (w : ℕ) → IsSound task m →
    IsHistoryFrom task retries m events →
    count_by (is_claim_of w) events + spent m w ≡ spent (happen_all task m events) w
spent_all task retries laws m [] w s h = omega arith
spent_all task retries laws m (event ∷ events) w s h =
    let rest = spent_all task retries laws (happens task m event) events w
    (sound_step task retries laws m event s h.0) h.1 in
    let step = spent_is task retries m event w s h.0 in
    let all = sum_by-cons (cost w) event events in
    omega (arith, rest, step, all)

-- a waiting window was given up as often as it was claimed
waiting_poisons : (task : Task) (retries : ℕ) (events : List Event) →
    PlanLaws task.graph task.tags task.plan → IsHistory task retries events → (w : ℕ) →
    (reached task events).phase w ≡ Waiting → claims_of events w ≡ (reached task events).poisons w
waiting_poisons task retries events laws h w e =
    let all = spent_all task retries laws start events w (start_sound task) h in
    let none : busy ((reached task events).phase w) ≡ 0 = ap busy e in
    omega (arith, all, none)

-- ---- links that a claim may have

origin_for : Option ℕ → Origin
origin_for None = Guess
origin_for (Some k) = Ticket k

bits_for : Task → Machine → ℕ → ℕ → Option ℕ → List Bool
bits_for task m w x None = replicate (length (places task.graph task.plan x w)) false
bits_for task m w x (Some k) = flips_at task x w (result_of m k)

abbrev link_for : Task → Machine → ℕ → ℕ → Link
link_for task m w x = record {
  source = x;
  origin = origin_for (standing (m.phase x));
  bits = bits_for task m w x (standing (m.phase x));
}

new_for : (task : Task) (m : Machine) (w x : ℕ) → IsNewLink task m w (link_for task m w x)
unfolding origin_for bits_for
new_for task m w x = by_standing (standing (m.phase x))
  where
    by_standing : (o : Option ℕ) →
        MatchOption o ((origin_for o ≡ Guess)
        × (length (bits_for task m w x o) ≡ length (places task.graph task.plan x w))) (λ k.
        (origin_for o ≡ Ticket k) × (bits_for task m w x o ≡ flips_at task x w (result_of m k)))
    by_standing None = (refl, length-replicate (length (places task.graph task.plan x w)) false)
    by_standing (Some k) = (refl, refl)

sources_for : (task : Task) (m : Machine) (w : ℕ) (xs : List ℕ) →
    map (λ (link : Link). link.source) (map (link_for task m w) xs) ≡ xs
sources_for task m w [] = refl
sources_for task m w (x ∷ xs) = ap (λ ys. x ∷ ys) (sources_for task m w xs)

-- ---- the test

module _ (task : Task) (retries : ℕ) (events : List Event) (book : TicketBook) (done : List Bool)
    (laws : PlanLaws task.graph task.tags task.plan) (h : IsHistory task retries events)
    (is : IsBookOf task retries events book) (flags : AreDone task (reached task events) done)
    (w : ℕ) (within : w < window_count task.plan) where
  abbrev m : Machine
  m = reached task events

  done_flag : (x : ℕ) → flag done x ≡ is_some (done_ticket (m.phase x))
  done_flag x = flag_is task retries events book done laws h is flags x ∙ by_phase (m.phase x)
    where
      by_phase : (p : Phase) → is_done p ≡ is_some (done_ticket p)
      by_phase Waiting = refl
      by_phase (Running k) = refl
      by_phase (Held k) = refl
      by_phase (Done k) = refl

  live_here : (entry_at book w).live ≡ live_of m.claim (m.phase w)
  live_here = live_is task retries m (claims_of events) book (sound task retries events laws h)
      (inside task retries events laws h) is w

  waits : (p : Phase) → is_none (live_of m.claim p) ≡ true → p ≡ Waiting
  waits Waiting e = refl
  waits (Running k) e = absurd (false≢true e)
  waits (Held k) e = absurd (false≢true e)
  waits (Done k) e = absurd (false≢true e)

  deps_done : list_all (flag done) (entry_at book w).deps ≡ true →
      All (λ x. IsSome (done_ticket (m.phase x))) (window_at task.plan w).deps
  deps_done t = all_from (flag done) (λ x. IsSome (done_ticket (m.phase x))) (λ x e. sym (done_flag
      x) ∙ e) (window_at task.plan w).deps (ap (list_all (flag done)) (sym (is.deps w within)) ∙ t)

  claim_from : can_claim task retries m.arrived book done w ≡ true → CanClaim task retries m w
  claim_from t = (
    m.tickets,
    map (link_for task m w) (window_at task.plan w).deps,
    record {
      number = refl;
      in_range = within;
      waiting = waiting;
      arrived = ltb-true (window_at task.plan w).last m.arrived one.1;
      allowed = ⊎_elim (λ few. inl (let l = ltb-true (entry_at book w).taken retries few in let c =
          is.claimed w within in let p = waiting_poisons task retries events laws h w waiting in
          omega (arith, l, c, p))) (λ all. inr (deps_done all))
          (or_cases (nat_lt (entry_at book w).taken retries)
          (list_all (flag done) (entry_at book w).deps) two.1);
      sources = sources_for task m w (window_at task.plan w).deps;
      new = All-map (IsNewLink task m w) (link_for task m w) (window_at task.plan w).deps (λ k d l.
          new_for task m w (get_or (window_at task.plan w).deps k d));
    },
  )
    where
      two : (is_none (entry_at book w).live && nat_lt (window_at task.plan w).last m.arrived ≡ true)
          × (nat_lt (entry_at book w).taken retries || list_all (flag done) (entry_at book w).deps
          ≡ true)
      two = and_parts (is_none (entry_at book w).live
          && nat_lt (window_at task.plan w).last m.arrived) (nat_lt (entry_at book w).taken retries
          || list_all (flag done) (entry_at book w).deps) t

      one : (is_none (entry_at book w).live ≡ true) × (nat_lt (window_at task.plan w).last m.arrived
          ≡ true)
      one = and_parts (is_none (entry_at book w).live)
          (nat_lt (window_at task.plan w).last m.arrived) two.0

      waiting : m.phase w ≡ Waiting
      waiting = waits (m.phase w) (ap is_none (sym live_here) ∙ one.0)

  claim_to : CanClaim task retries m w → can_claim task retries m.arrived book done w ≡ true
  claim_to c =
      and_from (is_none (entry_at book w).live && nat_lt (window_at task.plan w).last m.arrived)
      (nat_lt (entry_at book w).taken retries || list_all (flag done) (entry_at book w).deps)
      (and_from (is_none (entry_at book w).live) (nat_lt (window_at task.plan w).last m.arrived)
      (ap is_none (live_here ∙ ap (live_of m.claim) c.2.waiting))
      (lt-ltb (window_at task.plan w).last m.arrived c.2.arrived))
      (⊎_elim
      (λ few. or_left (nat_lt (entry_at book w).taken retries)
      (list_all (flag done) (entry_at book w).deps) (lt-ltb (entry_at book w).taken retries
      (let a = is.claimed w within in let p = waiting_poisons task retries events laws h w
      c.2.waiting in omega (arith, few, a, p))))
      (λ all. or_right (nat_lt (entry_at book w).taken retries)
      (list_all (flag done) (entry_at book w).deps)
      (ap (list_all (flag done)) (is.deps w within) ∙ all_to (flag done) (λ x. IsSome
      (done_ticket (m.phase x))) (λ x e. done_flag x ∙ e) (window_at task.plan w).deps all))
      c.2.allowed)

pub claim_law : ClaimLaw
claim_law task retries events book done w laws h is flags within = (
  claim_from task retries events book done laws h is flags w within,
  claim_to task retries events book done laws h is flags w within,
)

pub first_claim_law : FirstClaimLaw
first_claim_law task retries events book done None laws h
    is flags drops comparisons commits releases least = λ w c. least w (
      c.2.in_range,
      claim_to task retries events book done laws h is flags w c.2.in_range c,
    )
first_claim_law task retries events book done (Some w) laws h is flags drops comparisons commits
    releases least = (
      claim_from task retries events book done laws h is flags w least.0.0 least.0.1,
      λ k links. first_turn_law task retries (reached task events) (Claimed k w links) (
        drops,
        comparisons,
        commits,
        releases,
        λ y l c. least.1 y l (
          c.2.in_range,
          claim_to task retries events book done laws h is flags y c.2.in_range c,
        ),
      ),
    )
