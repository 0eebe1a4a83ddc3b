-- Laws of lists of numbers that rise.
use Rattle.std.proofs.Common.{◌≡◌, ◌≢◌, ℕ, zero, suc, ◌+◌, ◌<◌, ◌≤◌, ◌==◌, ◌||◌, ⊎_elim, true, false, cond, List, [], ◌∷◌, refl, sym, ap, ◌∙◌, subst, arith, eq-eqb, length, get_or, All, filter, take, Bool, Result, Ok, Err}
use Rattle.std.specs.List.{range_with_len}
use Rattle.std.specs.Result.{is_ok}
use Rattle.std.specs.Ordering.{nat_cmp}
use Rattle.std.specs.List.Sorted.{IsStrictlyIncreasing, IsBinarySearchResult}
use Rattle.std.proofs.Math.Nat.{eq-or-lt_of_le}
use Rattle.std.proofs.lemmas.Bool.{false≢true, cases_eq, ne_eqb, or_left, false_from_ne_true}
use Rattle.std.proofs.lemmas.Grind.{get_or_default_zero}
use Rattle.std.proofs.lemmas.List.Sorted.{searched}
use Rattle.std.proofs.lemmas.List.{get_or-take, get_or_default, length-take}
use Rattle.std.proofs.lemmas.List.Elements.{All-filter}
use Rattle.std.proofs.lemmas.List.Kept.{AllPairs-from_increasing}
use Rattle.graph_model.specs.Graph.{is_in}
use Rattle.graph_model.proofs.Members.{Contains-is_in, filter_same, is_in_cases, is_in_first, is_in_rest, is_in-Contains, is_in-range}

pub increasing_rest : (x : ℕ) (xs : List ℕ) → IsStrictlyIncreasing (x ∷ xs) →
    IsStrictlyIncreasing xs
increasing_rest x xs h k l =
    let e : suc k + 1 ≡ suc (k + 1) = omega arith in
    subst (λ n. get_or xs k 0 < get_or (x ∷ xs) n 0) e (h (suc k) (omega arith))

-- the first is below all others
pub increasing_above : (x : ℕ) (xs : List ℕ) → IsStrictlyIncreasing (x ∷ xs) → (y : ℕ) →
    is_in xs y ≡ true → x < y
increasing_above x [] h y m = absurd (false≢true m)
increasing_above x (z ∷ zs) h y m =
    let first : x < z = h 0 (omega arith) in
    ⊎_elim (λ e. subst (λ w. x < w) e first) (λ r. let k = increasing_above z zs
    (increasing_rest x (z ∷ zs) h) y r in omega (arith, k, first)) (is_in_cases z y zs m)

pub increasing_cons : (x : ℕ) (xs : List ℕ) → ((y : ℕ) → is_in xs y ≡ true → x < y) →
    IsStrictlyIncreasing xs → IsStrictlyIncreasing (x ∷ xs)
increasing_cons x [] above h k l = absurd (omega arith)
increasing_cons x (y ∷ ys) above h zero l = above y (is_in_first y ys)
increasing_cons x (y ∷ ys) above h (suc k) l =
    let e : suc (k + 1) ≡ suc k + 1 = omega arith in
    subst (λ n. get_or (y ∷ ys) k 0 < get_or (x ∷ y ∷ ys) n 0) e (h k (omega arith))

-- no number is below its place
pub place_le : (xs : List ℕ) → IsStrictlyIncreasing xs → (k : ℕ) → k < length xs → k ≤ get_or xs k 0
place_le xs h zero l = omega arith
place_le xs h (suc k) l =
    let e : k + 1 ≡ suc k = omega arith in
    let step : get_or xs k 0 < get_or xs (suc k) 0 =
    subst (λ n. get_or xs k 0 < get_or xs n 0) e (h k (omega arith)) in
    omega (arith, place_le xs h k (omega arith), step)

-- there are at most n rising numbers below n
pub increasing_length : (n : ℕ) (xs : List ℕ) → IsStrictlyIncreasing xs → All (λ x. x < n) xs →
    length xs ≤ n
increasing_length n [] h below = omega arith
increasing_length n (x ∷ xs) h below =
    let last = place_le (x ∷ xs) h (length xs) (omega arith) in
    omega (arith, last, below (length xs) 0 (omega arith))

-- what stands before a place is below what stands there
pub take_below : (xs : List ℕ) → IsStrictlyIncreasing xs → (i : ℕ) → i < length xs →
    All (λ x. x < get_or xs i 0) (take i xs)
take_below xs h i l k d b =
    let short : k < i = omega (arith, length-take i xs, b) in
    let below : get_or xs k d < get_or xs i d = AllPairs-from_increasing xs h k i d short l in
    let read : get_or (take i xs) k d ≡ get_or xs k d = get_or-take i xs k d short in
    let zero : get_or xs i d ≡ get_or xs i 0 = get_or_default xs i d 0 l in
    omega (arith, below, read, zero)

pub filter_take_below : (p : ℕ → Bool) (xs : List ℕ) → IsStrictlyIncreasing xs → (i : ℕ) →
    i < length xs → All (λ x. x < get_or xs i 0) (filter p (take i xs))
filter_take_below p xs h i l =
    All-filter p (λ x. x < get_or xs i 0) (take i xs) (take_below xs h i l)

-- ---- rising numbers are a filter of the numbers from a on
filter_nothing : (xs : List ℕ) → filter (is_in []) xs ≡ []
filter_nothing [] = refl
filter_nothing (x ∷ xs) = filter_nothing xs

past_first : (y : ℕ) (ys : List ℕ) (x : ℕ) → y < x → is_in (y ∷ ys) x ≡ is_in ys x
past_first y ys x l = ap (λ b. b || is_in ys x) (ne_eqb y x (λ e. omega (arith, e)))

pub rising_is : (a n : ℕ) (xs : List ℕ) → IsStrictlyIncreasing xs → ((x : ℕ) → is_in xs x ≡ true →
    a ≤ x) → ((x : ℕ) → is_in xs x ≡ true → x < a + n) → xs ≡ filter (is_in xs) (range_with_len a n)
rising_is a n [] up low high = sym (filter_nothing (range_with_len a n))
rising_is a zero (y ∷ ys) up low high = absurd (let l = low y (is_in_first y ys) in
    let h = high y (is_in_first y ys) in omega (arith, l, h))
rising_is a (suc n) (y ∷ ys) up low high =
    ⊎_elim
    (λ (e : y ≡ a).
    let above = increasing_above y ys up in
    let rest : ys ≡ filter (is_in ys) (range_with_len (a + 1) n) =
    rising_is (a + 1) n ys (increasing_rest y ys up) (λ x m. let k = above x m in
    omega (arith, k, e)) (λ x m. let k = high x (is_in_rest y x ys m) in omega (arith, k)) in
    let same : filter (is_in (y ∷ ys)) (range_with_len (a + 1) n)
    ≡ filter (is_in ys) (range_with_len (a + 1) n) = filter_same (is_in (y ∷ ys)) (is_in ys)
    (range_with_len (a + 1) n) (λ x m. past_first y ys x (let k = is_in-range (a + 1) n x m in
    let l = k.0 in omega (arith, l, e))) in
    ap (λ z. y ∷ z) (rest ∙ sym same)
    ∙ ap (λ z. z ∷ filter (is_in (y ∷ ys)) (range_with_len (a + 1) n)) e
    ∙ sym (ap (λ b. cond b (a ∷ filter (is_in (y ∷ ys)) (range_with_len (a + 1) n)) (filter (is_in
    (y ∷ ys)) (range_with_len (a + 1) n))) (or_left (y == a) (is_in ys a) (eq-eqb y a e))))
    (λ (ne : y ≢ a).
    let first = low y (is_in_first y ys) in
    let later : (x : ℕ) → is_in (y ∷ ys) x ≡ true → a + 1 ≤ x = λ x m.
    ⊎_elim (λ e. omega (arith, e, first, ne)) (λ r. let k = increasing_above y ys up x r in
    omega (arith, k, first)) (is_in_cases y x ys m) in
    let absent : is_in (y ∷ ys) a ≡ false =
    false_from_ne_true (is_in (y ∷ ys) a) (λ m. let k = later a m in omega (arith, k)) in
    rising_is (a + 1) n (y ∷ ys) up later (λ x m. let k = high x m in omega (arith, k))
    ∙ sym (ap (λ b. cond b (a ∷ filter (is_in (y ∷ ys)) (range_with_len (a + 1) n))
    (filter (is_in (y ∷ ys)) (range_with_len (a + 1) n))) absent))
    (cases_eq y a)

-- ---- a later place has no lower number
pub rises : (xs : List ℕ) → IsStrictlyIncreasing xs → (i j : ℕ) → i ≤ j → j < length xs →
    get_or xs i 0 ≤ get_or xs j 0
rises xs up i j le within =
    ⊎_elim (λ (e : i ≡ j). let s : get_or xs i 0 ≡ get_or xs j 0 = ap (λ n. get_or xs n 0) e in
    omega (arith, s))
    (λ (l : i < j). let k = AllPairs-from_increasing xs up i j 0 l within in omega (arith, k))
    (eq-or-lt_of_le le)

pub found_or_not : (xs : List ℕ) (x : ℕ) (r : Result ℕ ℕ) → IsStrictlyIncreasing xs →
    IsBinarySearchResult (λ y. nat_cmp y x) xs r → is_ok r ≡ is_in xs x
found_or_not xs x (Ok i) up found =
    let at = searched xs x (Ok i) found (rises xs up) in
    sym (is_in-Contains xs x (i, at.0, get_or_default_zero xs i x at.0 ∙ at.1))
found_or_not xs x (Err i) up found =
    let gap = searched xs x (Err i) found (rises xs up) in
    sym (false_from_ne_true (is_in xs x) (λ m.
    let at = Contains-is_in xs x m in
    let zero_read = get_or_default_zero xs at.0 x at.1 in
    grind (arith, gap.1 at.0, gap.2 at.0, at.1, at.2, zero_read)))
