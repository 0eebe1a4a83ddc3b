-- How many tickets there can be.
use Rattle.std.proofs.Common.{◌≡◌, ℕ, ◌+◌, ◌*◌, ◌≤◌, ◌==◌, ⊎_elim, Bool, true, false, cond, List, [], ◌∷◌, refl, sym, ap, subst, arith, count_by, eq-eqb}
use Rattle.std.specs.List.{range_with_len, sum_by}
use Rattle.std.proofs.lemmas.List.FromFn.{length-range_with_len}
use Rattle.std.proofs.lemmas.List.Sums.{sum_by-cons, sum_by-le, sum_by-le-sum_by}
use Rattle.graph_model.specs.Graph.{is_in}
use Rattle.graph_model.proofs.Members.{is_in_cases, is_in_range}
use Rattle.window_model.specs.Decoder.{Task}
use Rattle.window_model.specs.Laws.{PlanLaws}
use Rattle.window_model.specs.Windows.{window_count}
use Rattle.window_model.specs.Speculation.{Machine, Event, Arrived, Claimed, Returned, Stale, Verified, Poisoned, Dropped, Committed, Released, start, happens, IsHistory, IsHistoryFrom}
use Rattle.window_model.specs.SpeculationLaws.{is_claim_of}
use Rattle.window_model.specs.TicketLaws.{is_claim}
use Rattle.window_model.proofs.Claims.{claim_law}
use Rattle.window_model.proofs.Tickets.{ticket_law}
use Rattle.cascade_laws.specs.MirrorLaws.{reached}

abbrev tally : Bool → ℕ
tally b = cond b 1 0

-- a sum of larger terms, of which one is larger
sum_rises : (f g : ℕ → ℕ) (xs : List ℕ) (x : ℕ) → is_in xs x ≡ true → ((y : ℕ) → f y ≤ g y) →
    f x + 1 ≤ g x → sum_by f xs + 1 ≤ sum_by g xs
sum_rises f g [] x m each more = absurd (cc)
sum_rises f g (y ∷ ys) x m each more =
    ⊎_elim
    (λ e.
    let here : f y + 1 ≤ g y = subst (λ z. f z + 1 ≤ g z) (sym e) more in
    let rest = sum_by-le-sum_by f g ys each in
    omega (arith, here, rest, sum_by-cons f y ys, sum_by-cons g y ys))
    (λ r.
    let rest = sum_rises f g ys x r each more in
    let here = each y in
    omega (arith, here, rest, sum_by-cons f y ys, sum_by-cons g y ys))
    (is_in_cases y x ys m)

abbrev claims_in : List Event → ℕ → ℕ
claims_in events w = count_by (is_claim_of w) events

claims_cons : (w : ℕ) (event : Event) (events : List Event) → claims_in (event ∷ events) w
    ≡ tally (is_claim_of w event) + claims_in events w
claims_cons w event events = sum_by-cons (λ e. tally (is_claim_of w e)) event events

-- each claim is one of some window
claims_counted : (task : Task) (retries : ℕ) (m : Machine) (events : List Event) →
    IsHistoryFrom task retries m events →
    count_by is_claim events ≤ sum_by (claims_in events) (range_with_len 0 (window_count task.plan))
claims_counted task retries m [] h = omega arith
claims_counted task retries m (event ∷ events) h =
    by_event event h (claims_counted task retries (happens task m event) events h.1)
  where
    windows : List ℕ
    windows = range_with_len 0 (window_count task.plan)

    other : (e : Event) → is_claim e ≡ false → count_by is_claim events ≤ sum_by (claims_in events)
        windows → count_by is_claim (e ∷ events) ≤ sum_by (claims_in (e ∷ events)) windows
    other e none rest =
        let grows = sum_by-le-sum_by (claims_in events) (claims_in (e ∷ events)) windows (λ w.
        let c = claims_cons w e events in omega (arith, c)) in
        let one = sum_by-cons (λ x. tally (is_claim x)) e events in
        let zero : tally (is_claim e) ≡ 0 = ap tally none in
        omega (arith, rest, grows, one, zero)

    by_event : (e : Event) → IsHistoryFrom task retries m (e ∷ events) →
        count_by is_claim events ≤ sum_by (claims_in events) windows →
        count_by is_claim (e ∷ events) ≤ sum_by (claims_in (e ∷ events)) windows
    by_event (Claimed k w links) h rest =
        let here : tally (w == w) ≡ 1 = ap tally (eq-eqb w w refl) in
        let own = claims_cons w (Claimed k w links) events in
        let rises = sum_rises (claims_in events) (claims_in (Claimed k w links ∷ events)) windows
        w (is_in_range 0 (window_count task.plan) w (omega arith) (let l = h.0.in_range in
        omega (arith, l)))
        (λ y. let c = claims_cons y (Claimed k w links) events in
        omega (arith, c)) (omega (arith, here, own)) in
        let one = sum_by-cons (λ x. tally (is_claim x)) (Claimed k w links) events in
        omega (arith, rest, rises, one)
    by_event (Arrived t values raws) h rest = other (Arrived t values raws) refl rest
    by_event (Returned k set) h rest = other (Returned k set) refl rest
    by_event (Stale k) h rest = other (Stale k) refl rest
    by_event (Verified x w) h rest = other (Verified x w) refl rest
    by_event (Poisoned x w) h rest = other (Poisoned x w) refl rest
    by_event (Dropped w) h rest = other (Dropped w) refl rest
    by_event (Committed k w) h rest = other (Committed k w) refl rest
    by_event (Released op bit) h rest = other (Released op bit) refl rest

-- There are at most so many tickets as each window may be claimed.
pub tickets_few : (task : Task) (retries : ℕ) (events : List Event) →
    PlanLaws task.graph task.tags task.plan → IsHistory task retries events →
    (reached task events).tickets ≤ window_count task.plan * (retries + 1)
tickets_few task retries events laws h =
    let all = ticket_law task events in
    let counted = claims_counted task retries start events h in
    let each = sum_by-le (claims_in events) (retries + 1) (range_with_len 0
    (window_count task.plan)) (λ k d l. claim_law task retries events _ laws h) in
    let long = ap (λ n. n * (retries + 1)) (length-range_with_len 0 (window_count task.plan)) in
    omega (arith, all, counted, each, long)
