-- Lists, counts and sums over the numbers below a bound, as the bound grows by one.
use Rattle.std.proofs.Common.{◌≡◌, ◌≤◌, ◌<◌, ℕ, zero, suc, ◌+◌, Bool, true, false, cond, List, [], ◌∷◌, ◌++◌, count_by, flat_map, length, length-append, sum_by, append-nil, zero-add, ap, ◌∙◌, arith, refl}
use mir.Val.{bool_byte}
use Rattle.std.specs.List.{list_all, range_with_len}
use Rattle.std.proofs.lemmas.Bool.{and_from}
use Rattle.std.proofs.lemmas.List.Concat.{flat_map-append}
use Rattle.std.proofs.lemmas.List.Folds.{list_all-append, list_all_at}
use Rattle.std.proofs.lemmas.List.FromFn.{get_or-range_with_len, length-range_with_len}
use Rattle.std.proofs.lemmas.List.Sums.{sum_by-append, sum_by_push}
use Rattle.graph_model.proofs.Ranges.{below_more, flat_map_next, count_next}

-- ---- what one more number adds

pub counted_more : (p : ℕ → Bool) (n so_far next : ℕ) → so_far ≡ count_by p (range_with_len 0 n) →
    next ≡ cond (p n) 1 0 → so_far + next ≡ count_by p (range_with_len 0 (n + 1))
counted_more p n so_far next was one = omega (arith, was, one, count_next p n)

pub length_more : {X : Type 0} (f : ℕ → List X) (n so_far next : ℕ) →
    so_far ≡ length (flat_map f (range_with_len 0 n)) → next ≡ length (f n) →
    so_far + next ≡ length (flat_map f (range_with_len 0 (n + 1)))
length_more f n so_far next was one = omega (
  arith,
  was,
  one,
  ap length (flat_map_next f n),
  length-append (flat_map f (range_with_len 0 n)) (f n),
)

pub sum_more : {X : Type 0} (h : X → ℕ) (f : ℕ → List X) (n so_far next : ℕ) →
    so_far ≡ sum_by h (flat_map f (range_with_len 0 n)) → next ≡ sum_by h (f n) →
    so_far + next ≡ sum_by h (flat_map f (range_with_len 0 (n + 1)))
sum_more h f n so_far next was one = omega (
  arith,
  was,
  one,
  ap (sum_by h) (flat_map_next f n),
  sum_by-append h (flat_map f (range_with_len 0 n)) (f n),
)

pub at_most_one : (b : Bool) → cond b 1 0 ≤ 1
at_most_one true = omega arith
at_most_one false = omega arith

-- ---- one more number of which the same holds, and one of which it doesn't

pub all_more : (p : ℕ → Bool) (n : ℕ) → list_all p (range_with_len 0 n) ≡ true → p n ≡ true →
    list_all p (range_with_len 0 (n + 1)) ≡ true
all_more p n all one =
    ap (list_all p) (below_more n) ∙ list_all-append p (range_with_len 0 n) (n ∷ [])
    ∙ and_from (list_all p (range_with_len 0 n)) (list_all p (n ∷ [])) all
    (and_from (p n) true one refl)

pub not_all : (p : ℕ → Bool) (n w : ℕ) → w < n → p w ≡ false →
    list_all p (range_with_len 0 n) ≡ false
not_all p n w l fails =
    list_all_at p (range_with_len 0 n) w 0
    (let long = length-range_with_len 0 n in omega (arith, long, l))
    (ap p (get_or-range_with_len 0 n w 0 l ∙ zero-add w) ∙ fails)

-- ---- a truth value as a number

pub byte_is : (b : Bool) → bool_byte b ≡ cond b 1 0
byte_is true = refl
byte_is false = refl
