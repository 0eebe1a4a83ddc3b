-- More is left at a vertex, and what stays true of what is left and of the queue.
use Rattle.std.proofs.Common.{◌≡◌, ◌≢◌, ℕ, zero, suc, ◌+◌, ◌*◌, ◌<◌, ◌≤◌, List, [], ◌∷◌, ◌++◌, length, refl, sym, ap, ◌∙◌, arith, subst, ⊎_elim, ◌⊎◌, inl, inr, All, Contains, get_or, set, length-append, sum_by}
use Rattle.std.specs.List.Sorted.{IsPermutation}
use Rattle.std.proofs.lemmas.Bool.{cases_eq}
use Rattle.std.proofs.lemmas.List.{get_or_default, get_or_append_left, get_or-set_other, get_or-set_same, length-set}
use Rattle.std.proofs.lemmas.List.Elements.{All-set, All-cons, All-push, Contains-append_left, Contains-append_right}
use Rattle.std.proofs.lemmas.List.Sums.{sum_by-set, sum_by-le}
use Rattle.std.proofs.lemmas.List.Sorted.{All-permutation, Contains-permutation, IsPermutation-append_comm, IsPermutation-refl, length_permutation}
use Rattle.std.proofs.Math.Seq.{get_or-append_seam}
use Rattle.dist_search.specs.declared.star.Hop.{Hop}
use Rattle.dist_search.specs.declared.search.Step.{Step}
use Rattle.dist_search.specs.declared.search.Queued.{Queued}
use Rattle.dist_search.specs.Hops.{Advances, ArePending, AreReached, AreRelaxed, Extends, IsHop, IsRelaxed, IsSearch, Trail, begun, most_budget, queued_at, stepped}

pub Contains-later : {X : Type 0} (x y : X) (xs : List X) → Contains xs x → Contains (y ∷ xs) x
Contains-later x y xs c = (suc c.0, omega (arith, c.1), c.2)

pub Contains-head : {X : Type 0} (x : X) (xs : List X) → Contains (x ∷ xs) x
Contains-head x xs = (0, omega arith, refl)

pub Contains-cons_cases : {X : Type 0} (x y : X) (xs : List X) → Contains (y ∷ xs) x →
    (y ≡ x) ⊎ Contains xs x
Contains-cons_cases x y xs (zero, l, e) = inl e
Contains-cons_cases x y xs (suc k, l, e) = inr (k, omega arith, e)

-- ---- more steps are noted
pub extends_none : (steps : List Step) → Extends steps steps
extends_none steps = record { longer = omega arith; same = λ k d l. refl }

pub extends_push : (steps steps' : List Step) (step : Step) → steps' ≡ steps ++ step ∷ [] →
    Extends steps steps'
extends_push steps steps' step is = subst (Extends steps) (sym is)
    (record {
      longer = omega (arith, length-append steps (step ∷ []));
      same = λ k d l. get_or_append_left steps (step ∷ []) d k l;
    })

pub extends_on : (a b c : List Step) → Extends a b → Extends b c → Extends a c
extends_on a b c one two = let l = one.longer in let m = two.longer in
    record {
      longer = omega (arith, l, m);
      same = λ k d s. two.same k d (omega (arith, l, s))
          ∙ one.same k d s;
    }

module _ (hops : List Hop) (start : ℕ) (steps : List Step) where
  pub trail_kept : (steps' : List Step) → Extends steps steps' → {at v d : ℕ} {way : List ℕ} →
      Trail hops steps start at v d way → Trail hops steps' start at v d way
  trail_kept steps' more (begun a b c e) = begun a b c e
  trail_kept steps' more (stepped k d' way' step hop at low is before has edge to weight way
      trail) =
      let l = more.longer in
      stepped k d' way' step hop at (omega (arith, l, low)) (is ∙ sym (more.same k step low)) before
      has edge to weight way (trail_kept steps' more trail)

  trail_low : {at v d : ℕ} {way : List ℕ} → Trail hops steps start at v d way → at ≤ length steps
  trail_low (begun a b c e) = omega (arith, a)
  trail_low (stepped k d' way' step hop at low is before has edge to weight way trail) =
      omega (arith, at, low)

-- ---- x, which is more, is left at the end of a step
module _ (n : ℕ) (left ends reached : List ℕ) (hop : Hop) (x : ℕ) (fits_ : IsHop n hop)
    (are : IsSearch n left ends reached)
    (x_is : x + hop.weight ≡ get_or left hop.from 0) (more : get_or left hop.to 0 < x) where
  to_in : hop.to < length left
  to_in = let f = fits_.to in let c = are.count in omega (arith, f, c)

  other : hop.from ≢ hop.to
  other e = let k = ap (λ v. get_or left v 0) e in omega (arith, k, more, x_is)

  x_low : x ≤ most_budget
  x_low = let f = fits_.from in let c = are.count in
      let l = are.low hop.from 0 (omega (arith, f, c)) in omega (arith, l, x_is)

  pub from_kept : get_or (set left hop.to x) hop.from 0 ≡ get_or left hop.from 0
  from_kept = get_or-set_other left hop.to hop.from x 0 other

  pub now_relaxed : get_or (set left hop.to x) hop.from 0 ≤ get_or (set left hop.to x) hop.to 0
      + hop.weight
  now_relaxed = let a = from_kept in let b = get_or-set_same left hop.to x 0 to_in in
      omega (arith, a, b, x_is)

  pub raised_search : (len : ℕ) → IsSearch n (set left hop.to x) (set ends hop.to len) (reached
      ++ hop.to ∷ [])
  raised_search len = record {
    count = length-set left hop.to x ∙ are.count;
    count_ends = length-set ends hop.to len ∙ are.count_ends;
    low = All-set (λ l. l ≤ most_budget) left hop.to x x_low are.low;
    within = All-push (λ v. v < n) reached hop.to are.within fits_.to;
    known = λ v s. ⊎_elim (λ e. subst (Contains (reached ++ hop.to ∷ [])) (sym e)
        (Contains-append_right reached (hop.to ∷ []) hop.to (Contains-head hop.to [])))
        (λ ne. let o = get_or-set_other left hop.to v x 0 ne in Contains-append_left reached (hop.to
        ∷ []) v (are.known v (omega (arith, s, o)))) (cases_eq v hop.to);
  }

  pub raised : (steps steps' : List Step) (step : Step) (len : ℕ) → step.edge ≡ hop.edge →
      step.before ≡ get_or ends hop.from 0 → steps' ≡ steps ++ step ∷ [] → len ≡ length steps' →
      (hops : List Hop) (start budget : ℕ) → Contains hops hop → AreReached hops start budget left
      ends steps → AreReached hops start budget (set left hop.to x) (set ends hop.to len) steps'
  raised steps steps' step len edge before pushed len_is hops start budget has so = record {
    start_left = ⊎_elim (λ e. let k = ap (λ v. get_or left v 0) e in let z = so.start_left in
        let s = from.3 in absurd (omega (arith, k, z, s, more, x_is))) (λ ne.
        get_or-set_other left hop.to start x 0 ne ∙ so.start_left) (cases_eq start hop.to);
    way = λ v s. ⊎_elim (λ e. here v e) (λ ne. there v ne s) (cases_eq v hop.to);
  }
    where
      from : (d : ℕ) × (way : List ℕ) × Trail hops steps start (get_or ends hop.from 0) hop.from d
          way × (d + get_or left hop.from 0 ≡ budget)
      from = so.way hop.from (omega (arith, more, x_is))

      kept : {at v d : ℕ} {way : List ℕ} → Trail hops steps start at v d way →
          Trail hops steps' start at v d way
      kept trail = trail_kept hops start steps steps' (extends_push steps steps' step pushed) trail

      length_is : length steps' ≡ suc (length steps)
      length_is = ap length pushed ∙ length-append steps (step ∷ []) ∙ omega arith

      here : (v : ℕ) → v ≡ hop.to → (d : ℕ) × (way : List ℕ) × Trail hops steps' start
          (get_or (set ends hop.to len) v 0) v d way × (d + get_or (set left hop.to x) v 0 ≡ budget)
      here v e =
          let at : get_or (set ends hop.to len) v 0 ≡ suc (length steps) =
          ap (λ u. get_or (set ends hop.to len) u 0) e ∙ get_or-set_same ends hop.to len 0 (let f =
          fits_.to in let c = are.count_ends in omega (arith, f, c)) ∙ len_is ∙ length_is in
          let now : get_or (set left hop.to x) v 0 ≡ x = ap (λ u. get_or (set left hop.to x) u 0) e
          ∙ get_or-set_same left hop.to x 0 to_in in
          let low = trail_low hops start steps from.2 in
          let s = from.3 in (
            from.0 + hop.weight,
            step.edge ∷ from.1,
            stepped (length steps) from.0 from.1 step hop
                at (omega (arith, length_is)) (sym (ap (λ ss. get_or ss (length steps) step) pushed
                ∙ get_or-append_seam steps step [] step)) (omega (arith, before, low)) has
                (sym edge) e refl refl (subst (λ a.
                Trail hops steps' start a hop.from from.0 from.1) (sym before) (kept from.2)),
            omega (arith, s, now, x_is),
          )

      there : (v : ℕ) → v ≢ hop.to → 0 < get_or (set left hop.to x) v 0 →
          (d : ℕ) × (way : List ℕ) × Trail hops steps' start (get_or (set ends hop.to len) v 0) v d
          way × (d + get_or (set left hop.to x) v 0 ≡ budget)
      there v ne s =
          let same = get_or-set_other left hop.to v x 0 ne in
          let old = so.way v (omega (arith, s, same)) in
          let total = old.3 in (
            old.0,
            old.1,
            subst (λ a. Trail hops steps' start a v old.0 old.1)
                (sym (get_or-set_other ends hop.to v len 0 ne)) (kept old.2),
            omega (arith, total, same),
          )

  pub advanced : (queue queue' : List Queued) → IsPermutation (record { left = x; vertex = hop.to }
      ∷ queue) queue' → Advances n left queue (set left hop.to x) queue'
  advanced queue queue' moved = record {
    rises = λ v. ⊎_elim (λ e. let k = ap (λ u. get_or left u 0) e in
        let m = ap (λ u. get_or (set left hop.to x) u 0) e in
        let s = get_or-set_same left hop.to x 0 to_in in omega (arith, k, m, s, more))
        (λ ne. let s = get_or-set_other left hop.to v x 0 ne in
        omega (arith, s)) (cases_eq v hop.to);
    keeps = λ v. ⊎_elim (λ e. inr (now v e)) (λ ne. inl (
      get_or-set_other left hop.to v x 0 ne,
      λ c. Contains-permutation _ queue'
          (queued_at left v) moved (Contains-later (queued_at left v) _ queue c),
    ))
        (cases_eq v hop.to);
    queued = λ all. All-permutation (λ (q : Queued). q.vertex < n) _ queue' moved
        (All-cons (λ (q : Queued). q.vertex < n) _ queue (fits_.to) all);
    work = let s = sum_by-set (λ x. x) left hop.to x 0 to_in in
        let l = length_permutation _ queue' moved in omega (arith, s, l, more);
  }
    where
      now : (v : ℕ) → v ≡ hop.to → Contains queue' (queued_at (set left hop.to x) v)
      now v e =
          subst (λ u. Contains queue' (queued_at (set left hop.to x) u)) (sym e)
          (subst (λ l. Contains queue' (record { left = l; vertex = hop.to }))
          (sym (get_or-set_same left hop.to x 0 to_in))
          (Contains-permutation _ queue' (record { left = x; vertex = hop.to }) moved
          (Contains-head (record { left = x; vertex = hop.to }) queue)))

-- ---- steps in turn
pub advances_none : (n : ℕ) (left : List ℕ) (queue : List Queued) → Advances n left queue left queue
advances_none n left queue = record {
  rises = λ v. omega arith;
  keeps = λ v. inl (refl, λ c. c);
  queued = λ all. all;
  work = omega arith;
}

pub advances_on : (n : ℕ) (l l' l'' : List ℕ) (q q' q'' : List Queued) → Advances n l q l' q' →
    Advances n l' q' l'' q'' → Advances n l q l'' q''
advances_on n l l' l'' q q' q'' one two = record {
  rises = λ v. let a = one.rises v in let b = two.rises v in omega (arith, a, b);
  keeps = λ v. ⊎_elim (λ same. after v same (one.keeps v)) (λ c. inr c) (two.keeps v);
  queued = λ all. two.queued (one.queued all);
  work = let a = one.work in let b = two.work in omega (arith, a, b);
}
  where
    after : (v : ℕ) → ((get_or l'' v 0 ≡ get_or l' v 0) × (Contains q' (queued_at l' v) →
        Contains q'' (queued_at l' v))) →
        (((get_or l' v 0 ≡ get_or l v 0) × (Contains q (queued_at l v) →
        Contains q' (queued_at l v))) ⊎ Contains q' (queued_at l' v)) →
        ((get_or l'' v 0 ≡ get_or l v 0) × (Contains q (queued_at l v) →
        Contains q'' (queued_at l v))) ⊎ Contains q'' (queued_at l'' v)
    after v same (inl old) = inl (
      same.0 ∙ old.0,
      λ c. subst (λ x. Contains q'' (record { left = x; vertex = v })) old.0 (same.1
          (subst (λ x. Contains q' (record { left = x; vertex = v })) (sym old.0) (old.1 c))),
    )
    after v same (inr c) =
        inr (subst (λ x. Contains q'' (record { left = x; vertex = v })) (sym same.0) (same.1 c))

-- ---- the queue's first vertex
module _ (hops : List Hop) (left : List ℕ) (queue rest : List Queued) (q : Queued)
    (moved : IsPermutation queue (q ∷ rest)) (pending : ArePending hops left queue) where
  after_first : (v : ℕ) → Contains queue (queued_at left v) → (q ≡ queued_at left v)
      ⊎ Contains rest (queued_at left v)
  after_first v c = Contains-cons_cases (queued_at left v) q rest
      (Contains-permutation queue (q ∷ rest) (queued_at left v) moved c)

  -- more was left there since
  pub stale : q.left ≢ get_or left q.vertex 0 → ArePending hops left rest
  stale ne v = ⊎_elim (λ c. ⊎_elim (λ e. absurd (ne (ap (λ x. x.left) e ∙ ap (λ (x : Queued).
      get_or left x.vertex 0) (sym e)))) (λ d. inl d) (after_first v c)) (λ x. inr x) (pending v)

  -- nothing is left there, or more was since
  pub spent : (q.left ≡ 0) ⊎ (q.left ≢ get_or left q.vertex 0) → ArePending hops left rest
  spent (inr ne) v = stale ne v
  spent (inl none) v = ⊎_elim (λ c. ⊎_elim (λ e. inr (λ h has from. let z : get_or left v 0 ≡ 0 =
      sym (ap (λ x. x.left) e) ∙ none in omega (arith, z))) (λ d. inl d) (after_first v c))
      (λ x. inr x) (pending v)

  -- its steps are done
  pub settled : (n : ℕ) (left' : List ℕ) (queue' : List Queued) → Advances n left rest left'
      queue' → IsRelaxed hops left' q.vertex → ArePending hops left' queue'
  settled n left' queue' moves done v = ⊎_elim same (λ c. inl c) (moves.keeps v)
    where
      same : ((get_or left' v 0 ≡ get_or left v 0)
          × (Contains rest (queued_at left v) → Contains queue' (queued_at left v))) →
          Contains queue' (queued_at left' v) ⊎ IsRelaxed hops left' v
      same k =
          ⊎_elim (λ c. ⊎_elim (λ e. inr (subst (IsRelaxed hops left') (ap (λ x. x.vertex) e) done))
          (λ d. inl (subst (λ x. Contains queue' (record { left = x; vertex = v })) (sym k.0)
          (k.1 d))) (after_first v c))
          (λ x. inr (λ h c e. let a = x h c e in let b = moves.rises h.to in let s = k.0 in
          omega (arith, a, b, s)))
          (pending v)

pub all_relaxed : (hops : List Hop) (left : List ℕ) (queue : List Queued) → length queue ≡ 0 →
    ArePending hops left queue → AreRelaxed hops left
all_relaxed hops left queue none pending v =
    ⊎_elim (λ c. let l = c.1 in absurd (omega (arith, l, none))) (λ x. x) (pending v)

-- one more of some steps is taken
pub relaxed_more : (hops : List Hop) (i : ℕ) (e : Hop) (left left' : List ℕ) (vertex : ℕ) →
    i < length hops →
    ((k : ℕ) (d : Hop) → k < i → get_or left vertex 0 ≤ get_or left (get_or hops k d).to 0
    + (get_or hops k d).weight) →
    ((v : ℕ) → get_or left v 0 ≤ get_or left' v 0) → get_or left' vertex 0 ≡ get_or left vertex 0 →
    get_or left' vertex 0 ≤ get_or left' (get_or hops i e).to 0 + (get_or hops i e).weight →
    (k : ℕ) (d : Hop) → k < i + 1 → get_or left' vertex 0 ≤ get_or left' (get_or hops k d).to 0
    + (get_or hops k d).weight
relaxed_more hops i e left left' vertex low before rises same now k d l =
    ⊎_elim last earlier (cases_eq k i)
  where
    last : k ≡ i → get_or left' vertex 0 ≤ get_or left' (get_or hops k d).to 0
        + (get_or hops k d).weight
    last eq =
        let P : Hop → Type 0 = λ h. get_or left' vertex 0 ≤ get_or left' h.to 0 + h.weight in
        subst P (get_or_default hops i e d low ∙ ap (λ j. get_or hops j d) (sym eq)) now

    earlier : k ≢ i → get_or left' vertex 0 ≤ get_or left' (get_or hops k d).to 0
        + (get_or hops k d).weight
    earlier ne = let a = before k d (omega (arith, l, ne)) in let b = rises (get_or hops k d).to in
        omega (arith, a, b, same)

pub relaxed_by_all : (hops some : List Hop) (left : List ℕ) (v : ℕ) →
    ((h : Hop) → Contains hops h → h.from ≡ v → Contains some h) →
    All (λ (h : Hop). get_or left v 0 ≤ get_or left h.to 0 + h.weight) some → IsRelaxed hops left v
relaxed_by_all hops some left v every all h has e =
    let c = every h has e in
    subst (λ (x : Hop). get_or left v 0 ≤ get_or left x.to 0 + x.weight) c.2 (all c.0 h c.1)

-- ---- the whole budget is left at the start
module _ (n start budget : ℕ) (left ends : List ℕ) (in_ : start < n) (nothing : (v : ℕ) →
    get_or left v 0 ≡ 0) (count : length left ≡ n) (count' : length ends ≡ n) where
  at_start : get_or (set left start budget) start 0 ≡ budget
  at_start = get_or-set_same left start budget 0 (omega (arith, in_, count))

  elsewhere : (v : ℕ) → v ≢ start → get_or (set left start budget) v 0 ≡ 0
  elsewhere v ne = get_or-set_other left start v budget 0 ne ∙ nothing v

  only_start : (v : ℕ) → 0 < get_or (set left start budget) v 0 → v ≡ start
  only_start v s = ⊎_elim (λ e. e) (λ ne. let z = elsewhere v ne in
      absurd (omega (arith, s, z))) (cases_eq v start)

  pub begun_reached : (hops : List Hop) (steps : List Step) →
      AreReached hops start budget (set left start budget) (set ends start 0) steps
  begun_reached hops steps = record {
    start_left = at_start;
    way = λ v s. (
      0,
      [],
      begun (ap (λ u. get_or (set ends start 0) u 0) (only_start v s)
          ∙ get_or-set_same ends start 0 0 (omega (arith, in_, count'))) (only_start v s) refl refl,
      (let e = ap (λ u. get_or (set left start budget) u 0) (only_start v s) in
          omega (arith, e, at_start)),
    );
  }

  pub begun_pending : (hops : List Hop) (none queue : List Queued) →
      IsPermutation (record { left = budget; vertex = start } ∷ none) queue →
      ArePending hops (set left start budget) queue
  begun_pending hops none queue moved v = ⊎_elim (λ e. inl (here v e)) (λ ne.
      inr (λ h c e. let z = elsewhere v ne in omega (arith, z))) (cases_eq v start)
    where
      here : (v : ℕ) → v ≡ start → Contains queue (queued_at (set left start budget) v)
      here v e =
          subst (λ u. Contains queue (queued_at (set left start budget) u)) (sym e)
          (subst (λ x. Contains queue (record { left = x; vertex = start })) (sym at_start)
          (Contains-permutation _ queue (record { left = budget; vertex = start }) moved
          (Contains-head (record { left = budget; vertex = start }) none)))

pub begun_queued : (n start budget : ℕ) (none queue : List Queued) →
    start < n → none ≡ [] → IsPermutation (record { left = budget; vertex = start } ∷ none) queue →
    All (λ (q : Queued). q.vertex < n) queue
begun_queued n start budget none queue in_ empty moved =
    All-permutation (λ (q : Queued). q.vertex < n) _ queue moved
    (All-cons (λ (q : Queued). q.vertex < n) (record { left = budget; vertex = start }) none in_
    (λ k d l. let z = ap length empty in absurd (omega (arith, l, z))))

-- no more than so much is left in all
pub sum_low : (n : ℕ) (left ends reached : List ℕ) → IsSearch n left ends reached →
    sum_by (λ x. x) left ≤ n * most_budget
sum_low n left ends reached are = let s = sum_by-le (λ x. x) most_budget left are.low in
    let c = are.count in subst (λ m. sum_by (λ x. x) left ≤ m * most_budget) c s

-- ---- a queue, first in, first out
pub put_last : (q : Queued) (queue queue' : List Queued) → queue' ≡ queue ++ q ∷ [] →
    IsPermutation (q ∷ queue) queue'
put_last q queue queue' is =
    subst (IsPermutation (q ∷ queue)) (sym is) (IsPermutation-append_comm (q ∷ []) queue)

pub taken_first : (queue rest : List Queued) (q : Queued) → queue ≡ q ∷ rest →
    IsPermutation queue (q ∷ rest)
taken_first queue rest q is = subst (λ (xs : List Queued). IsPermutation xs (q ∷ rest)) (sym is)
    (IsPermutation-refl (q ∷ rest))
