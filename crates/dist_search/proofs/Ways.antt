-- The way back along a search's steps, and what stands an odd number of times in a list.
use Rattle.std.proofs.Common.{◌≡◌, ◌≢◌, ℕ, zero, suc, ◌-◌, ◌+◌, ◌<◌, ◌≤◌, ◌==◌, ◌&&◌, ◌||◌, Bool, true, false, cond, List, [], ◌∷◌, ◌++◌, length, take, refl, sym, ap, ◌∙◌, arith, subst, ⊎_elim, get_or, All, append_assoc, eqb-true, eq-eqb}
use Rattle.std.specs.Prelude.{sum_by, nat_lt}
use Rattle.std.specs.List.Sorted.{IsNonDecreasing, IsPermutation}
use Rattle.std.proofs.lemmas.Bool.{cases_eq, ne_eqb, ltb-true, lt-ltb, false≢true}
use Rattle.std.proofs.lemmas.List.{get_or_default, append-nil}
use Rattle.std.proofs.lemmas.List.Elements.{All-push}
use Rattle.std.proofs.lemmas.List.Sums.{sum_by-cons}
use Rattle.std.proofs.lemmas.List.Sorted.{sum_by-IsPermutation}
use Rattle.graph_model.specs.Graph.{is_in}
use Rattle.graph_model.specs.Parity.{◌⊕◌, parity}
use Rattle.graph_model.proofs.Parities.{xor-false, xor-self, xor_assoc, parity_more}
use Rattle.dist_search.specs.declared.search.Step.{Step}
use Rattle.dist_search.specs.Hops.{Extends, Way, ended, passed}
use Rattle.dist_search.specs.Tables.{IsOdd}

pub way_kept : (steps steps' : List Step) → Extends steps steps' → {at : ℕ} {way : List ℕ} →
    Way steps at way → Way steps' at way
way_kept steps steps' more (ended e w) = ended e w
way_kept steps steps' more (passed k way' s e low is before way_is left) = let l = more.longer in
    passed k way' s e (omega (arith, l, low)) (is ∙ sym (more.same k s low)) before way_is
    (way_kept steps steps' more left)

-- ---- a step back
-- the edges so far, with those of the way that is left
pub record Traced (steps : List Step) (whole : List ℕ) (at : ℕ) (edges : List ℕ) : Type 0 where
  pub rest : List ℕ
  pub way : Way steps at rest
  pub is : edges ++ rest ≡ whole

pub record Back (steps : List Step) (whole : List ℕ) (at : ℕ) (edges : List ℕ)
    (step : Step) : Type 0 where
  pub low : at - 1 < length steps
  pub before : step.before < at
  pub traced : Traced steps whole step.before (edges ++ step.edge ∷ [])

pub low_back : (steps : List Step) (whole : List ℕ) (at : ℕ) (edges : List ℕ) →
    Traced steps whole at edges → 0 < at → at - 1 < length steps
low_back steps whole at edges so some = by_way so.way
  where
    by_way : Way steps at so.rest → at - 1 < length steps
    by_way (ended e w) = absurd (omega (arith, e, some))
    by_way (passed k way' s e low s_is before way_is left) = omega (arith, e, low)

pub back : (steps : List Step) (whole : List ℕ) (at : ℕ) (edges : List ℕ) →
    Traced steps whole at edges → 0 < at → (step : Step) → step ≡ get_or steps (at - 1) step →
    Back steps whole at edges step
back steps whole at edges so some step is = by_way so.way
  where
    by_way : Way steps at so.rest → Back steps whole at edges step
    by_way (ended e w) = absurd (omega (arith, e, some))
    by_way (passed k way' s e low s_is before way_is left) =
        let place : at - 1 ≡ k = omega (arith, e) in
        let same : step ≡ s = is ∙ ap (λ j. get_or steps j step) place
        ∙ get_or_default steps k step s low ∙ sym s_is in
        subst (Back steps whole at edges) (sym same) (record {
          low = omega (arith, e, low);
          before = omega (arith, e, before);
          traced = record {
            rest = way';
            way = left;
            is = append_assoc edges (s.edge ∷ []) way'
                ∙ ap (λ w. edges ++ w) (sym way_is) ∙ so.is;
          };
        })

pub traced_all : (steps : List Step) (whole : List ℕ) (at : ℕ) (edges : List ℕ) → at ≡ 0 →
    Traced steps whole at edges → edges ≡ whole
traced_all steps whole at edges none so = by_way so.way
  where
    by_way : Way steps at so.rest → edges ≡ whole
    by_way (ended e w) = sym (append-nil edges) ∙ ap (λ r. edges ++ r) (sym w) ∙ so.is
    by_way (passed k way' s e low s_is before way_is left) = absurd (omega (arith, e, none))

-- ---- an odd number of times
abbrev odd : ℕ → Bool
odd zero = false
odd (suc n) = true ⊕ odd n

parity_of_sum : (test : ℕ → Bool) (xs : List ℕ) →
    parity test xs ≡ odd (sum_by (λ x. cond (test x) 1 0) xs)
parity_of_sum test [] = refl
parity_of_sum test (x ∷ xs) = by_test (test x) (parity_of_sum test xs)
    ∙ ap odd (sym (sum_by-cons (λ y. cond (test y) 1 0) x xs))
  where
    by_test : (b : Bool) → parity test xs ≡ odd (sum_by (λ x. cond (test x) 1 0) xs) →
        b ⊕ parity test xs ≡ odd (cond b 1 0 + sum_by (λ x. cond (test x) 1 0) xs)
    by_test true h = let e : suc (sum_by (λ x. cond (test x) 1 0) xs)
        ≡ 1 + sum_by (λ x. cond (test x) 1 0) xs = omega arith in ap (λ b. true ⊕ b) h ∙ ap odd e
    by_test false h = let e : sum_by (λ x. cond (test x) 1 0) xs
        ≡ 0 + sum_by (λ x. cond (test x) 1 0) xs = omega arith in h ∙ ap odd e

pub parity-permutation : (test : ℕ → Bool) (xs ys : List ℕ) → IsPermutation xs ys →
    parity test ys ≡ parity test xs
parity-permutation test xs ys moved =
    parity_of_sum test ys ∙ ap odd (sum_by-IsPermutation (λ x. cond (test x) 1 0) xs ys moved)
    ∙ sym (parity_of_sum test xs)

pub odd_sorted : (xs ys set : List ℕ) → IsPermutation xs ys → IsOdd ys set → IsOdd xs set
odd_sorted xs ys set moved so = record {
  ascending = so.ascending;
  odd = λ e. so.odd e
      ∙ parity-permutation (λ d. d == e) xs ys moved;
}

-- an edge above all others
push_in : (set : List ℕ) (x e : ℕ) → All (λ y. y < x) set → is_in (set ++ x ∷ []) e
    ≡ is_in set e ⊕ (x == e)
push_in [] x e below = or_none (x == e)
  where
    or_none : (b : Bool) → b || false ≡ b
    or_none true = refl
    or_none false = refl
push_in (y ∷ ys) x e below = ⊎_elim here (λ ne. ap (λ b. b || is_in (ys ++ x ∷ []) e)
    (ne_eqb y e ne) ∙ push_in ys x e (λ k d l. below (suc k) d (omega (arith, l)))
    ∙ ap (λ b. (b || is_in ys e) ⊕ (x == e)) (sym (ne_eqb y e ne))) (cases_eq y e)
  where
    here : y ≡ e → is_in (y ∷ ys ++ x ∷ []) e ≡ is_in (y ∷ ys) e ⊕ (x == e)
    here s =
        let less : y < x = below 0 0 (omega arith) in
        ap (λ b. b || is_in (ys ++ x ∷ []) e) (eq-eqb y e s)
        ∙ ap (λ b. true ⊕ b) (sym (ne_eqb x e (λ t. omega (arith, s, t, less))))
        ∙ ap (λ b. (b || is_in ys e) ⊕ (x == e)) (sym (eq-eqb y e s))

-- what stands an odd number of times before a place, all below what follows
pub record OddTo (edges : List ℕ) (at : ℕ) (set : List ℕ) : Type 0 where
  pub odd_so : (e : ℕ) → is_in set e ≡ parity (λ d. d == e) (take at edges)
  pub below : (k : ℕ) → at ≤ k → k < length edges → All (λ e. e < get_or edges k 0) set

module _ (edges : List ℕ) (rises : IsNonDecreasing edges) (at : ℕ) (set : List ℕ) (low : at
    < length edges) (so : OddTo edges at set) where
  next : (e : ℕ) → parity (λ d. d == e) (take (at + 1) edges)
      ≡ is_in set e ⊕ (get_or edges at 0 == e)
  next e = parity_more (λ d. d == e) edges at 0 low
      ∙ ap (λ b. b ⊕ (get_or edges at 0 == e)) (sym (so.odd_so e))

  pub odd_skip : nat_lt (at + 1) (length edges) && (get_or edges at 0 == get_or edges (at + 1) 0)
      ≡ true → OddTo edges (at + 2) set
  odd_skip twice = record { odd_so = both; below = λ k l m. so.below k (omega (arith, l)) m }
    where
      two : (a b : Bool) → a && b ≡ true → (a ≡ true) × (b ≡ true)
      two true b h = (refl, h)
      two false b h = absurd (false≢true h)

      both : (e : ℕ) → is_in set e ≡ parity (λ d. d == e) (take (at + 2) edges)
      both e =
          let t = two (nat_lt (at + 1) (length edges)) (get_or edges at 0
          == get_or edges (at + 1) 0) twice in
          let same = eqb-true (get_or edges at 0) (get_or edges (at + 1) 0) t.1 in
          let n : at + 1 + 1 ≡ at + 2 = omega arith in
          sym (xor-false (is_in set e))
          ∙ ap (λ b. is_in set e ⊕ b) (sym (xor-self (get_or edges at 0 == e)))
          ∙ sym (xor_assoc (is_in set e) (get_or edges at 0 == e) (get_or edges at 0 == e))
          ∙ ap (λ b. b ⊕ (get_or edges at 0 == e)) (sym (next e))
          ∙ ap (λ x. parity (λ d. d == e) (take (at + 1) edges) ⊕ (x == e)) same
          ∙ sym (parity_more (λ d. d == e) edges (at + 1) 0 (ltb-true (at + 1) (length edges) t.0))
          ∙ ap (λ m. parity (λ d. d == e) (take m edges)) n

  pub odd_keep : (set' : List ℕ) →
      nat_lt (at + 1) (length edges) && (get_or edges at 0 == get_or edges (at + 1) 0) ≡ false →
      set' ≡ set ++ get_or edges at 0 ∷ [] → OddTo edges (at + 1) set'
  odd_keep set' once is = subst (OddTo edges (at + 1)) (sym is) (record {
    odd_so = λ e. push_in set (get_or edges at 0) e (so.below at (omega arith) low) ∙ sym (next e);
    below = λ k l m. All-push (λ e. e < get_or edges k 0) set (get_or edges at 0)
        (so.below k (omega (arith, l)) m) (above k l m);
  })
    where
      not_same : at + 1 < length edges → get_or edges at 0 ≢ get_or edges (at + 1) 0
      not_same m s = false≢true (sym once ∙ ap (λ b. b
          && (get_or edges at 0 == get_or edges (at + 1) 0)) (lt-ltb (at + 1) (length edges) m)
          ∙ eq-eqb (get_or edges at 0) (get_or edges (at + 1) 0) s)

      above : (k : ℕ) → at + 1 ≤ k → k < length edges → get_or edges at 0 < get_or edges k 0
      above k l m =
          let m' : at + 1 < length edges = omega (arith, l, m) in
          let first = rises at (at + 1) 0 (omega arith) m' in
          let rest = ⊎_elim (λ (e : at + 1 ≡ k). let s = ap (λ j. get_or edges j 0) e in
          omega (arith, s)) (λ ne. rises (at + 1) k 0 (omega (arith, l, ne)) m)
          (cases_eq (at + 1) k) in
          let differ = not_same m' in
          omega (arith, first, rest, differ)

pub odd_none : (edges : List ℕ) → OddTo edges 0 []
odd_none edges = record { odd_so = λ e. refl; below = λ k l m j d s. absurd (omega (arith, s)) }
