-- Places by tables, and places in rising lists that are gone through together.
use Rattle.std.proofs.Common.{◌≡◌, ℕ, ◌+◌, ◌<◌, ◌≤◌, ◌==◌, ◌&&◌, ⊎_elim, Bool, true, false, List, length, get_or, Option, Some, None, refl, sym, ap, ◌∙◌, subst, arith, eq-eqb, eqb-true, set}
use Rattle.std.specs.Prelude.{nat_lt}
use Rattle.std.specs.List.Sorted.{IsStrictlyIncreasing}
use Rattle.std.proofs.Math.Nat.{eq-or-lt_of_le}
use Rattle.std.proofs.lemmas.Bool.{false≢true, and_parts, and_from, cases_lt, lt-ltb, ltb-true, false_from_ne_true}
use Rattle.std.proofs.lemmas.List.{get_or-set_other}
use Rattle.std.proofs.lemmas.Grind.{get_or-set_at}
use Rattle.std.proofs.lemmas.List.Kept.{AllPairs-from_increasing}
use Rattle.graph_model.specs.Graph.{is_in}
use Rattle.graph_model.proofs.Members.{is_in_at}
use Rattle.window_model.specs.Parts.{place_of}
use Rattle.window_model.proofs.PartLaws.{place_found, place_there, place_rising}
use Rattle.boundary_fold.specs.Located.{AreBelow, HasPlaces, IsFirstFrom}

-- ---- a table of places

-- one place more is noted
pub noted_more : (ds table new : List ℕ) (k : ℕ) → IsStrictlyIncreasing ds → k < length ds →
    get_or ds k 0 < length table → new ≡ set table (get_or ds k 0) k →
    ((i : ℕ) → i < k → get_or table (get_or ds i 0) 0 ≡ i) →
    (i : ℕ) → i < k + 1 → get_or new (get_or ds i 0) 0 ≡ i
noted_more ds table new k up l within is noted i b =
    ⊎_elim
    (λ (e : i ≡ k). ap (λ xs. get_or xs (get_or ds i 0) 0) is
    ∙ get_or-set_at table (get_or ds k 0) (get_or ds i 0) k 0 (ap (λ n. get_or ds n 0) e) within
    ∙ sym e)
    (λ (m : i < k).
    let below = AllPairs-from_increasing ds up i k 0 m l in
    ap (λ xs. get_or xs (get_or ds i 0) 0) is
    ∙ get_or-set_other table (get_or ds k 0) (get_or ds i 0) k 0 (λ e. omega (arith, below, e))
    ∙ noted i m)
    (eq-or-lt_of_le (let h : i ≤ k = omega (arith, b) in h))

module _ (ds table : List ℕ) (v : ℕ) (h : HasPlaces ds table) where
  abbrev at : ℕ
  at = get_or table v 0

  pub found_at : nat_lt at (length ds) && get_or ds at 0 == v ≡ true → Some at ≡ place_of ds v
  found_at t =
      let k = and_parts (nat_lt at (length ds)) (get_or ds at 0 == v) t in
      sym (place_rising ds v at h.rising (ltb-true at (length ds) k.0)
      (eqb-true (get_or ds at 0) v k.1))

  pub missed_at : nat_lt at (length ds) && get_or ds at 0 == v ≡ false → None ≡ place_of ds v
  missed_at f = by_place (place_of ds v) refl
    where
      by_place : (o : Option ℕ) → place_of ds v ≡ o → None ≡ o
      by_place None e = refl
      by_place (Some i) e =
          let k = place_found ds v i e in
          let same : at ≡ i = ap (λ x. get_or table x 0) (sym k.1) ∙ h.places i k.0 in
          let short : at < length ds = subst (λ n. n < length ds) (sym same) k.0 in
          let here : get_or ds at 0 ≡ v = ap (λ n. get_or ds n 0) same ∙ k.1 in
          absurd (false≢true (sym f ∙ and_from (nat_lt at (length ds)) (get_or ds at 0 == v)
          (lt-ltb at (length ds) short) (eq-eqb (get_or ds at 0) v here)))

-- ---- two rising lists

-- one number more is below
pub below_more : (xs : List ℕ) (k n : ℕ) → AreBelow xs k n → get_or xs k 0 < n →
    AreBelow xs (k + 1) n
below_more xs k n below l i b =
    ⊎_elim (λ (e : i ≡ k). subst (λ j. get_or xs j 0 < n) (sym e) l) (λ (m : i < k). below i m)
    (eq-or-lt_of_le (let h : i ≤ k = omega (arith, b) in h))

-- the numbers below n are below the next one
pub below_next : (xs ys : List ℕ) (k i : ℕ) → IsStrictlyIncreasing ys → i + 1 < length ys →
    AreBelow xs k (get_or ys i 0) → AreBelow xs k (get_or ys (i + 1) 0)
below_next xs ys k i up l below j b =
    let one = below j b in let two = up i l in omega (arith, one, two)

-- whether the first place that isn't below has the number
pub has_first : (xs : List ℕ) (n k : ℕ) → IsStrictlyIncreasing xs → IsFirstFrom xs n k →
    nat_lt k (length xs) && get_or xs k 0 == n ≡ is_in xs n
has_first xs n k up first = by_test (nat_lt k (length xs) && get_or xs k 0 == n) refl
  where
    absent : nat_lt k (length xs) && get_or xs k 0 == n ≡ false → is_in xs n ≡ true → ⊥
    absent f m = by_place (place_of xs n) refl
      where
        by_place : (o : Option ℕ) → place_of xs n ≡ o → ⊥
        by_place None e = place_there xs n m e
        by_place (Some i) e =
            let at = place_found xs n i e in
            ⊎_elim
            (λ (l : i < k). let low = first.below i l in omega (arith, low, at.1))
            (λ (l : k ≤ i). ⊎_elim
            (λ (s : k ≡ i).
            let short : k < length xs = subst (λ j. j < length xs) (sym s) at.0 in
            let here : get_or xs k 0 ≡ n = ap (λ j. get_or xs j 0) s ∙ at.1 in
            false≢true (sym f ∙ and_from (nat_lt k (length xs)) (get_or xs k 0 == n)
            (lt-ltb k (length xs) short) (eq-eqb (get_or xs k 0) n here)))
            (λ (s : k < i).
            let low = AllPairs-from_increasing xs up k i 0 s at.0 in
            let high = first.above (omega (arith, s, at.0)) in
            omega (arith, low, high, at.1))
            (eq-or-lt_of_le l))
            (cases_lt i k)

    by_test : (b : Bool) → nat_lt k (length xs) && get_or xs k 0 == n ≡ b → b ≡ is_in xs n
    by_test true t =
        let h = and_parts (nat_lt k (length xs)) (get_or xs k 0 == n) t in
        sym (subst (λ x. is_in xs x ≡ true) (eqb-true (get_or xs k 0) n h.1)
        (is_in_at xs k (ltb-true k (length xs) h.0)))
    by_test false f = sym (false_from_ne_true (is_in xs n) (absent f))

pub first_test : (xs : List ℕ) (n k : ℕ) → IsStrictlyIncreasing xs → IsFirstFrom xs n k →
    k < length xs → get_or xs k 0 == n ≡ is_in xs n
first_test xs n k up first l =
    sym (ap (λ t. t && get_or xs k 0 == n) (lt-ltb k (length xs) l)) ∙ has_first xs n k up first

pub past_test : (xs : List ℕ) (n k : ℕ) → IsStrictlyIncreasing xs → IsFirstFrom xs n k →
    (k < length xs → ⊥) → nat_lt k (length xs) ≡ is_in xs n
past_test xs n k up first l =
    let out : nat_lt k (length xs) ≡ false =
    false_from_ne_true (nat_lt k (length xs)) (λ t. l (ltb-true k (length xs) t)) in
    out ∙ sym (ap (λ t. t && get_or xs k 0 == n) out) ∙ has_first xs n k up first
