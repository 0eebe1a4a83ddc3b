-- Laws of the edges that end at a detector.
use Rattle.std.proofs.Common.{◌≡◌, ℕ, zero, suc, ◌+◌, ◌<◌, ◌≤◌, ⊎_elim, Bool, true, false, cond, List, [], ◌∷◌, ◌++◌, filter, length, length-append, le_of_eq, refl, sym, ap, ◌∙◌, arith}
use Rattle.std.specs.List.{range_with_len}
use Rattle.std.specs.List.Sorted.{IsStrictlyIncreasing}
use Rattle.std.proofs.Math.Nat.{eq-or-lt_of_le}
use Rattle.std.proofs.lemmas.Bool.{and_parts, false_from_ne_true}
use Rattle.std.proofs.lemmas.List.FromFn.{get_or-range_with_len, length-range_with_len}
use Rattle.std.proofs.lemmas.List.Kept.{IsStrictlyIncreasing-filter}
use Rattle.graph_model.specs.Graph.{DetectorGraph, is_in, ends_at, incident_edges, IsGraph}
use Rattle.graph_model.proofs.Members.{filter_none_in, is_in-filter, is_in-below, is_in-range}

pub increasing_range : (a n : ℕ) → IsStrictlyIncreasing (range_with_len a n)
increasing_range a n k l =
    let within = length-range_with_len a n in
    omega (
      arith,
      get_or-range_with_len a n k 0 (omega (arith, l, within)),
      get_or-range_with_len a n (k + 1) 0 (omega (arith, l, within)),
    )

-- ---- a filter of the numbers from a on, as they become more
filter_cons : (b : Bool) (a : ℕ) (xs ys : List ℕ) → cond b (a ∷ (xs ++ ys)) (xs ++ ys)
    ≡ cond b (a ∷ xs) xs ++ ys
filter_cons true a xs ys = refl
filter_cons false a xs ys = refl

pub filter-range_more : (p : ℕ → Bool) (a n : ℕ) → filter p (range_with_len a (n + 1))
    ≡ filter p (range_with_len a n) ++ cond (p (a + n)) ((a + n) ∷ []) []
filter-range_more p a zero = let e : a ≡ a + 0 = omega arith in ap (λ k. cond (p k) (k ∷ []) []) e
filter-range_more p a (suc n) =
    let e : a + 1 + n ≡ a + suc n = omega arith in
    let s : n + 1 ≡ suc n = omega arith in
    let more : filter p (range_with_len (a + 1) (suc n)) ≡ filter p (range_with_len (a + 1) n)
    ++ cond (p (a + suc n)) ((a + suc n) ∷ []) [] =
    ap (λ k. filter p (range_with_len (a + 1) k)) (sym s)
    ∙ filter-range_more p (a + 1) n
    ∙ ap (λ k. filter p (range_with_len (a + 1) n) ++ cond (p k) (k ∷ []) []) e in
    let t : suc n + 1 ≡ suc (suc n) = omega arith in
    ap (λ k. filter p (range_with_len a k)) t
    ∙ ap (λ ys. cond (p a) (a ∷ ys) ys) more
    ∙ filter_cons (p a) a (filter p (range_with_len (a + 1) n))
    (cond (p (a + suc n)) ((a + suc n) ∷ []) [])

grown : (b : Bool) (xs : List ℕ) (y : ℕ) → length xs ≤ length (xs ++ cond b (y ∷ []) [])
grown b xs y = omega (arith, length-append xs (cond b (y ∷ []) []))

pub length-filter-range_le : (p : ℕ → Bool) (i n : ℕ) → i ≤ n →
    length (filter p (range_with_len 0 i)) ≤ length (filter p (range_with_len 0 n))
length-filter-range_le p i zero le = let e : i ≡ 0 = omega arith in
    le_of_eq (ap (λ k. length (filter p (range_with_len 0 k))) e)
length-filter-range_le p i (suc n) le =
    let s : n + 1 ≡ suc n = omega arith in
    let more : length (filter p (range_with_len 0 (suc n))) ≡ length (filter p (range_with_len 0 n)
    ++ cond (p (0 + n)) ((0 + n) ∷ []) []) =
    ap (λ k. length (filter p (range_with_len 0 k))) (sym s)
    ∙ ap length (filter-range_more p 0 n) in
    ⊎_elim (λ (e : i ≡ suc n). le_of_eq (ap (λ k. length (filter p (range_with_len 0 k))) e))
    (λ (l : i < suc n). let k = length-filter-range_le p i n (omega arith) in
    omega (arith, k, more, grown (p (0 + n)) (filter p (range_with_len 0 n)) (0 + n)))
    (eq-or-lt_of_le le)

-- a number that passes makes the filter of the numbers below it shorter
pub length-filter-range_lt : (p : ℕ → Bool) (i n : ℕ) → i < n → p i ≡ true →
    length (filter p (range_with_len 0 i)) < length (filter p (range_with_len 0 n))
length-filter-range_lt p i n l passes =
    let z : 0 + i ≡ i = omega arith in
    let more : length (filter p (range_with_len 0 (i + 1))) ≡ length (filter p (range_with_len 0 i)
    ++ i ∷ []) =
    ap length (filter-range_more p 0 i ∙ ap (λ k. filter p (range_with_len 0 i) ++ cond (p k) (k
    ∷ []) []) z ∙ ap (λ b. filter p (range_with_len 0 i) ++ cond b (i ∷ []) []) passes) in
    omega (
      arith,
      more,
      length-append (filter p (range_with_len 0 i)) (i ∷ []),
      length-filter-range_le p (i + 1) n (omega arith),
    )

-- ---- the edges at a detector
pub incident_ascending : (g : DetectorGraph) (v : ℕ) → IsStrictlyIncreasing (incident_edges g v)
incident_ascending g v = IsStrictlyIncreasing-filter (ends_at g v)
    (range_with_len 0 (length g.edges)) (increasing_range 0 (length g.edges))

pub is_in-incident : (g : DetectorGraph) (v e : ℕ) → e < length g.edges →
    is_in (incident_edges g v) e ≡ ends_at g v e
is_in-incident g v e l = is_in-below (ends_at g v) (length g.edges) e l

pub incident_below : (g : DetectorGraph) (v e : ℕ) → is_in (incident_edges g v) e ≡ true →
    (e < length g.edges) × (ends_at g v e ≡ true)
incident_below g v e m =
    let both = and_parts (is_in (range_with_len 0 (length g.edges)) e) (ends_at g v e)
    (sym (is_in-filter (ends_at g v) (range_with_len 0 (length g.edges)) e) ∙ m) in
    let k = is_in-range 0 (length g.edges) e both.0 in
    (omega (arith, k.1), both.1)

-- a detector past the last has no edge
pub incident_past : (g : DetectorGraph) → IsGraph g → (v : ℕ) → g.vertices ≤ v → (n : ℕ) →
    filter (ends_at g v) (range_with_len 0 n) ≡ []
incident_past g ends v past n = filter_none_in (ends_at g v) (range_with_len 0 n) (λ e _.
    false_from_ne_true (ends_at g v e) (λ h. let l = ends v e h in omega (arith, l)))
