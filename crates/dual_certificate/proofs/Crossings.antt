-- Sums over sets that hold a member, or two.
use Rattle.std.proofs.Common.{◌≡◌, ℕ, ◌+◌, ◌*◌, ◌^◌, ◌<◌, ◌≤◌, ◌==◌, ◌&&◌, ◌||◌, Bool, true, false, cond, List, [], ◌∷◌, refl, sym, ap, ◌∙◌, arith, length, take, get_or, set, All, ⊎_elim, eq-eqb}
use Rattle.std.specs.Prelude.{ℤ, pos, negsuc, ◌+ℤ◌, ◌≤ℤ◌, ◌<ℤ◌, unsigned_abs}
use Rattle.std.specs.List.Sorted.{IsStrictlyIncreasing}
use Rattle.std.proofs.lemmas.Bool.{cases_eq, false_from_ne_true, ne_eqb, or_right}
use Rattle.std.proofs.lemmas.Int.{ints}
use Rattle.std.proofs.lemmas.List.{get_or-set_same, get_or-set_other}
use Rattle.std.proofs.lemmas.List.Elements.{All-tail}
use Rattle.std.proofs.lemmas.List.Folds.{list_any_more}
use Rattle.std.proofs.lemmas.List.Sums.{sum_by-cons, sum_by_more}
use Rattle.graph_model.specs.Graph.{is_in}
use Rattle.graph_model.specs.Parity.{◌⊕◌}
use Rattle.graph_model.proofs.Ascending.{take_below}
use Rattle.graph_model.proofs.Members.{All-at}
use Rattle.matching_model.specs.Certificates.{Certificate, IsOddSet, pair_sum, parts}
use Rattle.matching_model.specs.Sums.{int_sum_by, counted}
use Rattle.matching_model.proofs.IntSums.{int_sum_by-cons}
use Rattle.dual_certificate.specs.Sums.{held, shared, crossing}

-- a number above 0 is its own amount
pub amount : (z : ℤ) → pos 0 <ℤ z → pos (unsigned_abs z) ≡ z
amount (pos n) h = refl
amount (negsuc n) h = absurd (omega (arith, ints, h))

module _ (i j : ℕ) where
  shared_le : (a b : Bool) (n : ℕ) → cond (a && b) n 0 ≤ cond a n 0
  shared_le true true n = omega arith
  shared_le true false n = omega arith
  shared_le false b n = omega arith

  shared_le' : (a b : Bool) (n : ℕ) → cond (a && b) n 0 ≤ cond b n 0
  shared_le' true true n = omega arith
  shared_le' true false n = omega arith
  shared_le' false b n = omega arith

  pub shared_low : (sets : List (List ℕ × ℤ)) → (shared sets i j ≤ held sets i)
      × (shared sets i j ≤ held sets j)
  shared_low [] = (omega arith, omega arith)
  shared_low (s ∷ ss) =
      let ih = shared_low ss in
      let one = shared_le (is_in s.0 i) (is_in s.0 j) (unsigned_abs s.1) in
      let two = shared_le' (is_in s.0 i) (is_in s.0 j) (unsigned_abs s.1) in
      let both = sum_by-cons (λ (t : List ℕ × ℤ).
      cond (is_in t.0 i && is_in t.0 j) (unsigned_abs t.1) 0) s ss in
      let first = sum_by-cons (λ (t : List ℕ × ℤ). cond (is_in t.0 i) (unsigned_abs t.1) 0) s ss in
      let second = sum_by-cons (λ (t : List ℕ × ℤ). cond (is_in t.0 j) (unsigned_abs t.1) 0) s ss in
      (omega (arith, ih.0, one, both, first), omega (arith, ih.1, two, both, second))

  one_apart : (a b : Bool) (z : ℤ) → pos 0 <ℤ z → counted (a ⊕ b) z +ℤ pos (2 * cond (a
      && b) (unsigned_abs z) 0) ≡ pos (cond a (unsigned_abs z) 0 + cond b (unsigned_abs z) 0)
  one_apart true true z h = omega (arith, ints)
  one_apart true false z h = let k = amount z h in omega (arith, ints, k)
  one_apart false true z h = let k = amount z h in omega (arith, ints, k)
  one_apart false false z h = omega (arith, ints)

  apart : (sets : List (List ℕ × ℤ)) → All (λ (s : List ℕ × ℤ). pos 0 <ℤ s.1) sets →
      int_sum_by (λ (s : List ℕ × ℤ). counted (parts i j s.0) s.1) sets +ℤ pos (2 * shared sets i j)
      ≡ pos (held sets i + held sets j)
  apart [] all = refl
  apart (s ∷ ss) all =
      let ih = apart ss (All-tail (λ (t : List ℕ × ℤ). pos 0 <ℤ t.1) s ss all) in
      let one = one_apart (is_in s.0 i) (is_in s.0 j) s.1 (all 0 s (omega arith)) in
      let both = sum_by-cons (λ (t : List ℕ × ℤ).
      cond (is_in t.0 i && is_in t.0 j) (unsigned_abs t.1) 0) s ss in
      let first = sum_by-cons (λ (t : List ℕ × ℤ). cond (is_in t.0 i) (unsigned_abs t.1) 0) s ss in
      let second = sum_by-cons (λ (t : List ℕ × ℤ). cond (is_in t.0 j) (unsigned_abs t.1) 0) s ss in
      let all_of = int_sum_by-cons (λ (t : List ℕ × ℤ). counted (parts i j t.0) t.1) s ss in
      omega (arith, ints, ih, one, both, first, second, all_of)

  pub crossed : (sets : List (List ℕ × ℤ)) → All (λ (s : List ℕ × ℤ). pos 0 <ℤ s.1) sets →
      int_sum_by (λ (s : List ℕ × ℤ). counted (parts i j s.0) s.1) sets ≡ pos (crossing sets i j)
  crossed sets all = let k = apart sets all in let l = shared_low sets in
      omega (arith, ints, k, l.0, l.1)

-- one more member of a set is written to
pub added_more : (ms old now : List ℕ) (k number : ℕ) → IsStrictlyIncreasing ms → k < length ms →
    get_or ms k 0 < length now →
    ((j : ℕ) → get_or now j 0 ≡ get_or old j 0 + cond (is_in (take k ms) j) number 0) → (x : ℕ) →
    x ≡ get_or now (get_or ms k 0) 0 + number →
    (j : ℕ) → get_or (set now (get_or ms k 0) x) j 0 ≡ get_or old j 0
    + cond (is_in (take (k + 1) ms) j) number 0
added_more ms old now k number up l within so_far x x_is j =
    ⊎_elim here there (cases_eq j (get_or ms k 0))
  where
    not_yet : is_in (take k ms) (get_or ms k 0) ≡ false
    not_yet = false_from_ne_true (is_in (take k ms) (get_or ms k 0)) (λ h. let low = All-at (λ y. y
        < get_or ms k 0) (take k ms) (get_or ms k 0) (take_below ms up k l) h in omega (arith, low))

    first : x ≡ get_or old (get_or ms k 0) 0 + number
    first = x_is ∙ ap (λ a. a + number) (so_far (get_or ms k 0)
        ∙ ap (λ b. get_or old (get_or ms k 0) 0 + cond b number 0) not_yet) ∙ omega arith

    more : (a : ℕ) → is_in (take (k + 1) ms) a ≡ (is_in (take k ms) a || (get_or ms k 0 == a))
    more a = list_any_more (λ y. y == a) ms k 0 l

    here : j ≡ get_or ms k 0 → get_or (set now (get_or ms k 0) x) j 0 ≡ get_or old j 0
        + cond (is_in (take (k + 1) ms) j) number 0
    here e =
        ap (λ a. get_or (set now (get_or ms k 0) x) a 0) e
        ∙ get_or-set_same now (get_or ms k 0) x 0 within ∙ first
        ∙ ap (λ b. get_or old (get_or ms k 0) 0 + cond b number 0) (sym (more (get_or ms k 0)
        ∙ or_right (is_in (take k ms) (get_or ms k 0)) (get_or ms k 0 == get_or ms k 0)
        (eq-eqb (get_or ms k 0) (get_or ms k 0) refl)))
        ∙ ap (λ a. get_or old a 0 + cond (is_in (take (k + 1) ms) a) number 0) (sym e)

    there : (j ≡ get_or ms k 0 → ⊥) → get_or (set now (get_or ms k 0) x) j 0 ≡ get_or old j 0
        + cond (is_in (take (k + 1) ms) j) number 0
    there ne =
        get_or-set_other now (get_or ms k 0) j x 0 ne ∙ so_far j
        ∙ ap (λ b. get_or old j 0 + cond b number 0) (or_none (is_in (take k ms) j) (get_or ms k 0
        == j) (ne_eqb (get_or ms k 0) j (λ e. ne (sym e))) ∙ sym (more j))
      where
        or_none : (a b : Bool) → b ≡ false → a ≡ a || b
        or_none true b e = refl
        or_none false b e = sym e

-- ---- one more set
cond_low : (b : Bool) (n : ℕ) → cond b n 0 ≤ n
cond_low true n = omega arith
cond_low false n = omega arith

pub sum_low : (b : Bool) (n old new at : ℕ) → new ≡ old + cond b n 0 → old ≤ 2 ^ 63 * at →
    n ≤ 2 ^ 63 → new ≤ 2 ^ 63 * (at + 1)
sum_low b n old new at is low small = let c = cond_low b n in omega (arith, is, low, small, c)

module _ (sets : List (List ℕ × ℤ)) (at : ℕ) (d : List ℕ × ℤ) (ms : List ℕ)
    (n j old new : ℕ) (l : at < length sets) (members : ms ≡ (get_or sets at d).0) (number : n
    ≡ unsigned_abs (get_or sets at d).1) where
  pub held_more : old ≡ held (take at sets) j → new ≡ old + cond (is_in ms j) n 0 →
      new ≡ held (take (at + 1) sets) j
  held_more so_far is =
      is ∙ ap (λ x. x + cond (is_in ms j) n 0) so_far
      ∙ ap (λ xs. held (take at sets) j + cond (is_in xs j) n 0) members
      ∙ ap (λ x. held (take at sets) j + cond (is_in (get_or sets at d).0 j) x 0) number
      ∙ sym (sum_by_more (λ (s : List ℕ × ℤ). cond (is_in s.0 j) (unsigned_abs s.1) 0) sets at d l)

  pub shared_more : (i : ℕ) → old ≡ shared (take at sets) i j →
      new ≡ old + cond (is_in ms i && is_in ms j) n 0 → new ≡ shared (take (at + 1) sets) i j
  shared_more i so_far is =
      is ∙ ap (λ x. x + cond (is_in ms i && is_in ms j) n 0) so_far
      ∙ ap (λ xs. shared (take at sets) i j + cond (is_in xs i && is_in xs j) n 0) members
      ∙ ap (λ x. shared (take at sets) i j + cond (is_in (get_or sets at d).0 i
      && is_in (get_or sets at d).0 j) x 0) number
      ∙ sym (sum_by_more (λ (s : List ℕ × ℤ). cond (is_in s.0 i && is_in s.0 j) (unsigned_abs s.1)
      0) sets at d l)

-- ---- what is said of two members
pub pair_is : (n : ℕ) (c : Certificate) → All (IsOddSet n) c.sets → (i j : ℕ) (one two : ℤ) →
    one ≡ get_or c.vertex i (pos 0) → two ≡ get_or c.vertex j (pos 0) →
    pair_sum c i j ≡ (one +ℤ two) +ℤ pos (crossing c.sets i j)
pair_is n c odd i j one two first second =
    ap (λ s. (get_or c.vertex i (pos 0) +ℤ get_or c.vertex j (pos 0)) +ℤ s)
    (crossed i j c.sets (λ k d l. (odd k d l).positive))
    ∙ ap (λ z. (z +ℤ get_or c.vertex j (pos 0)) +ℤ pos (crossing c.sets i j)) (sym first)
    ∙ ap (λ z. (one +ℤ z) +ℤ pos (crossing c.sets i j)) (sym second)

pub above_not_below : (x y : ℤ) → x <ℤ y → y ≤ℤ x → ⊥
above_not_below x y l m = omega (arith, ints, l, m)
