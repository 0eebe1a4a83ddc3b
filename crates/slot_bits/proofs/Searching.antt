-- The place of a bit in a rising list, and the steps of a union bit by bit.
use Rattle.std.proofs.Common.{◌≡◌, ℕ, zero, suc, ◌+◌, ◌<◌, ◌≤◌, ◌⊎◌, ⊎_elim, inl, inr, Bool, true, false, cond, refl, sym, ap, ◌∙◌, arith, subst, List, [], ◌∷◌, ◌++◌, map, length, get_or, drop, Some, None}
use Rattle.std.specs.Prelude.{nat_lt, position}
use Rattle.std.specs.List.{position_or_len}
use Rattle.std.proofs.lemmas.Bool.{true≢false, cases_lt, cases_Bool, lt-ltb, le-ltb}
use Rattle.std.proofs.lemmas.List.{drop_more, map-append}
use Rattle.std.proofs.lemmas.List.Sums.{position_or_len_is}
use Rattle.surface_model.specs.Measurements as measurements
use Rattle.surface_model.specs.Measurements.{same_bit}
use Rattle.slot_bits.specs.declared.bits.Bit.{Bit}
use Rattle.slot_bits.specs.Order.{comes_before, IsBefore, IsRising, rank_of}
use Rattle.slot_bits.specs.Seen.{bit_of, bits_of}
use Rattle.slot_bits.proofs.Rising.{before_trans, before_self, same_bit_is, same_bit_self, bit_order, not_same, IsMerging, take_first, take_second, take_both}

pub get-bits : (xs : List Bit) (k : ℕ) (x : Bit) →
    get_or (bits_of xs) k (bit_of x) ≡ bit_of (get_or xs k x)
get-bits [] k x = refl
get-bits (y ∷ xs) zero x = refl
get-bits (y ∷ xs) (suc k) x = get-bits xs k x

pub length-bits : (xs : List Bit) → length (bits_of xs) ≡ length xs
length-bits [] = refl
length-bits (x ∷ xs) = let k = length-bits xs in omega (arith, k)

-- ---- how many come before

before_le : (xs : List measurements.Bit) (b : measurements.Bit) → rank_of xs b ≤ length xs
before_le [] b = omega arith
before_le (x ∷ xs) b = by_test (comes_before x b) (before_le xs b)
  where
    by_test : (t : Bool) → rank_of xs b ≤ length xs → cond t (rank_of xs b + 1) 0 ≤ length (x ∷ xs)
    by_test true h = omega (arith, h)
    by_test false h = omega arith

at_before : (xs : List measurements.Bit) (b : measurements.Bit) (k : ℕ) (d : measurements.Bit) →
    k < rank_of xs b → comes_before (get_or xs k d) b ≡ true
at_before [] b k d h = absurd (omega (arith, h))
at_before (x ∷ xs) b k d h = by_test (comes_before x b) refl k (λ m. at_before xs b m d) h
  where
    by_test : (t : Bool) → comes_before x b ≡ t → (k : ℕ) →
        ((m : ℕ) → m < rank_of xs b → comes_before (get_or xs m d) b ≡ true) →
        k < cond t (rank_of xs b + 1) 0 → comes_before (get_or (x ∷ xs) k d) b ≡ true
    by_test true e zero rest l = e
    by_test true e (suc k) rest l = rest k (omega (arith, l))
    by_test false e k rest l = absurd (omega (arith, l))

at_limit : (xs : List measurements.Bit) (b d : measurements.Bit) → rank_of xs b < length xs →
    comes_before (get_or xs (rank_of xs b) d) b ≡ false
at_limit [] b d h = absurd (omega (arith, h))
at_limit (x ∷ xs) b d h = by_test (comes_before x b) refl (at_limit xs b d) h
  where
    next : (n m : ℕ) → n ≡ suc m → get_or (x ∷ xs) n d ≡ get_or xs m d
    next n m e = ap (λ k. get_or (x ∷ xs) k d) e

    by_test : (t : Bool) → comes_before x b ≡ t →
        (rank_of xs b < length xs → comes_before (get_or xs (rank_of xs b) d) b ≡ false) →
        cond t (rank_of xs b + 1) 0 < length (x ∷ xs) →
        comes_before (get_or (x ∷ xs) (cond t (rank_of xs b + 1) 0) d) b ≡ false
    by_test true e rest l = let one : rank_of xs b + 1 ≡ suc (rank_of xs b) = omega arith in
        ap (λ y. comes_before y b) (next (rank_of xs b + 1) (rank_of xs b) one)
        ∙ rest (omega (arith, l))
    by_test false e rest l = e

is_before_at : (a : measurements.Bit) (xs : List measurements.Bit) (k : ℕ) (d : measurements.Bit) →
    IsBefore a xs → k < length xs → comes_before a (get_or xs k d) ≡ true
is_before_at a [] k d h l = absurd (omega (arith, l))
is_before_at a (x ∷ xs) zero d h l = h.0
is_before_at a (x ∷ xs) (suc k) d h l = is_before_at a xs k d h.1 (omega (arith, l))

later : (xs : List measurements.Bit) (i k : ℕ) (d : measurements.Bit) → IsRising xs → i < k →
    k < length xs → comes_before (get_or xs i d) (get_or xs k d) ≡ true
later [] i k d r h l = absurd (omega (arith, l))
later (x ∷ xs) i zero d r h l = absurd (omega (arith, h))
later (x ∷ xs) zero (suc k) d r h l = is_before_at x xs k d r.0 (omega (arith, l))
later (x ∷ xs) (suc i) (suc k) d r h l = later xs i k d r.1 (omega (arith, h)) (omega (arith, l))

-- a bit of the list that comes before is counted, and one that doesn't ends the count
pub counted : (xs : List measurements.Bit) (b : measurements.Bit) (k : ℕ) (d : measurements.Bit) →
    IsRising xs → k < length xs → comes_before (get_or xs k d) b ≡ true → k < rank_of xs b
counted xs b k d r l h = by_order (cases_lt k (rank_of xs b))
  where
    at : (n : ℕ) → n ≡ rank_of xs b → (n < k) ⊎ (n ≡ k) → ⊥
    at n e (inl less) =
        true≢false (sym (before_trans (get_or xs n d) (get_or xs k d) b (later xs n k d r less l) h)
        ∙ ap (λ m. comes_before (get_or xs m d) b) e ∙ at_limit xs b d (omega (arith, e, less, l)))
    at n e (inr same) =
        true≢false (sym h ∙ ap (λ m. comes_before (get_or xs m d) b) (sym same ∙ e)
        ∙ at_limit xs b d (omega (arith, e, same, l)))

    by_order : (k < rank_of xs b) ⊎ (rank_of xs b ≤ k) → k < rank_of xs b
    by_order (inl h) = h
    by_order (inr h) = absurd (at (rank_of xs b) refl (by_less (cases_lt (rank_of xs b) k)))
      where
        by_less : (rank_of xs b < k) ⊎ (k ≤ rank_of xs b) → (rank_of xs b < k) ⊎ (rank_of xs b ≡ k)
        by_less (inl l) = inl l
        by_less (inr l) = inr (omega (arith, l, h))

pub not_counted : (xs : List measurements.Bit) (b : measurements.Bit) (k : ℕ)
    (d : measurements.Bit) → comes_before (get_or xs k d) b ≡ false → rank_of xs b ≤ k
not_counted xs b k d h =
    ⊎_elim (λ l. absurd (true≢false (sym (at_before xs b k d l) ∙ h))) (λ l. l)
    (cases_lt k (rank_of xs b))

pub before_bound : (xs : List measurements.Bit) (b : measurements.Bit) → rank_of xs b ≤ length xs
before_bound xs b = before_le xs b

-- ---- the place

position_at : {X : Type 0} (p : X → Bool) (xs : List X) (n : ℕ) → position_or_len p xs ≡ n →
    n < length xs → position p xs ≡ Some n
position_at p xs n e l = ap (λ k. cond (nat_lt k (length xs)) (Some k) None) e
    ∙ ap (λ t. cond t (Some n) None) (lt-ltb n (length xs) l)

position_none : {X : Type 0} (p : X → Bool) (xs : List X) → position_or_len p xs ≡ length xs →
    position p xs ≡ None
position_none p xs e = ap (λ k. cond (nat_lt k (length xs)) (Some k) None) e
    ∙ ap (λ t. cond t (Some (length xs)) None) (le-ltb (length xs) (length xs) (omega arith))

pub place_found : (xs : List measurements.Bit) (b d : measurements.Bit) → IsRising xs →
    rank_of xs b < length xs → comes_before b (get_or xs (rank_of xs b) d) ≡ false →
    position (same_bit b) xs ≡ Some (rank_of xs b)
place_found xs b d r l h =
    let n = rank_of xs b in
    position_at (same_bit b) xs n
    (position_or_len_is (same_bit b) xs n d (omega (arith, l))
    (λ k less. not_same (get_or xs k d) b (at_before xs b k d less))
    (λ less. here (bit_order b (get_or xs n d))))
    l
  where
    here : (comes_before b (get_or xs (rank_of xs b) d) ≡ true) ⊎
        ((b ≡ get_or xs (rank_of xs b) d) ⊎ (comes_before (get_or xs (rank_of xs b) d) b ≡ true)) →
        same_bit b (get_or xs (rank_of xs b) d) ≡ true
    here (inl e) = absurd (true≢false (sym e ∙ h))
    here (inr (inl e)) = subst (λ x. same_bit b x ≡ true) e (same_bit_self b)
    here (inr (inr e)) = absurd (true≢false (sym e ∙ at_limit xs b d l))

-- none of the list is the bit: those before it come before, and it comes before the others
absent_at : (xs : List measurements.Bit) (b d : measurements.Bit) → IsRising xs →
    (rank_of xs b < length xs → comes_before b (get_or xs (rank_of xs b) d) ≡ true) → (k : ℕ) →
    k < length xs → same_bit b (get_or xs k d) ≡ false
absent_at xs b d r h k l =
    ⊎_elim (λ less. not_same (get_or xs k d) b (at_before xs b k d less))
    (λ more. by_more (cases_lt (rank_of xs b) k) more) (cases_lt k (rank_of xs b))
  where
    differs : comes_before b (get_or xs k d) ≡ true → same_bit b (get_or xs k d) ≡ false
    differs e = ⊎_elim
        (λ s. absurd
        (true≢false (sym e ∙ ap (comes_before b) (sym (same_bit_is b (get_or xs k d) s))
        ∙ before_self b))) (λ s. s) (cases_Bool (same_bit b (get_or xs k d)))

    by_more : (rank_of xs b < k) ⊎ (k ≤ rank_of xs b) → rank_of xs b ≤ k →
        same_bit b (get_or xs k d) ≡ false
    by_more (inl less) more =
        differs (before_trans b (get_or xs (rank_of xs b) d) (get_or xs k d)
        (h (omega (arith, less, l))) (later xs (rank_of xs b) k d r less l))
    by_more (inr less) more = let e : rank_of xs b ≡ k = omega (arith, less, more) in
        differs (subst (λ n. comes_before b (get_or xs n d) ≡ true) e (h (omega (arith, e, l))))

pub place_absent : (xs : List measurements.Bit) (b d : measurements.Bit) → IsRising xs →
    (rank_of xs b < length xs → comes_before b (get_or xs (rank_of xs b) d) ≡ true) →
    position (same_bit b) xs ≡ None
place_absent xs b d r h =
    position_none (same_bit b) xs (position_or_len_is (same_bit b) xs (length xs) d (omega arith)
    (λ k l. absent_at xs b d r h k l) (λ l. absurd (omega (arith, l))))

-- ---- the steps of a union, where the bits at places i and j are looked at

abbrev pub Merging : List Bit → List Bit → List Bit → ℕ → ℕ → Type 0
Merging one two out i j =
    (i ≤ length one) × (j ≤ length two)
    × IsMerging (bits_of one) (bits_of two) (bits_of out) (bits_of (drop i one))
    (bits_of (drop j two))

head_of : (xs : List Bit) (i : ℕ) (x : Bit) → i < length xs → x ≡ get_or xs i x →
    bits_of (drop i xs) ≡ bit_of x ∷ bits_of (drop (i + 1) xs)
head_of xs i x l e =
    ap bits_of (drop_more xs i x l) ∙ ap (λ y. bit_of y ∷ bits_of (drop (i + 1) xs)) (sym e)

module _ (one two out : List Bit) (i j : ℕ) (x y : Bit) (li : i < length one) (lj : j < length two)
    (ex : x ≡ get_or one i x) (ey : y ≡ get_or two j y) (m : Merging one two out i j) where
  opened : IsMerging (bits_of one) (bits_of two) (bits_of out)
      (bit_of x ∷ bits_of (drop (i + 1) one)) (bit_of y ∷ bits_of (drop (j + 1) two))
  opened = subst (λ zs. IsMerging (bits_of one) (bits_of two) (bits_of out)
      (bit_of x ∷ bits_of (drop (i + 1) one)) zs) (head_of two j y lj ey)
      (subst (λ zs. IsMerging (bits_of one) (bits_of two) (bits_of out) zs (bits_of (drop j two)))
      (head_of one i x li ex) m.2)

  pub first_step : comes_before (bit_of x) (bit_of y) ≡ true →
      Merging one two (out ++ x ∷ []) (i + 1) j
  first_step h = (
    omega (arith, li),
    m.1,
    subst (λ zs. IsMerging (bits_of one) (bits_of two) (bits_of (out ++ x ∷ []))
        (bits_of (drop (i + 1) one)) zs) (sym (head_of two j y lj ey))
        (subst (λ zs. IsMerging (bits_of one) (bits_of two) zs (bits_of (drop (i + 1) one))
        (bit_of y ∷ bits_of (drop (j + 1) two))) (sym (map-append bit_of out (x ∷ [])))
        (take_first (bits_of one) (bits_of two) (bits_of out) (bit_of x) (bit_of y)
        (bits_of (drop (i + 1) one)) (bits_of (drop (j + 1) two)) opened h)),
  )

  pub second_step : comes_before (bit_of y) (bit_of x) ≡ true →
      Merging one two (out ++ y ∷ []) i (j + 1)
  second_step h = (
    m.0,
    omega (arith, lj),
    subst (λ zs. IsMerging (bits_of one) (bits_of two) (bits_of (out ++ y ∷ [])) zs
        (bits_of (drop (j + 1) two))) (sym (head_of one i x li ex))
        (subst (λ zs. IsMerging (bits_of one) (bits_of two) zs
        (bit_of x ∷ bits_of (drop (i + 1) one)) (bits_of (drop (j + 1) two)))
        (sym (map-append bit_of out (y ∷ [])))
        (take_second (bits_of one) (bits_of two) (bits_of out) (bit_of x) (bit_of y)
        (bits_of (drop (i + 1) one)) (bits_of (drop (j + 1) two)) opened h)),
  )

  pub both_step : comes_before (bit_of x) (bit_of y) ≡ false →
      comes_before (bit_of y) (bit_of x) ≡ false → Merging one two (out ++ x ∷ []) (i + 1) (j + 1)
  both_step h k = by_order (bit_order (bit_of x) (bit_of y))
    where
      same : bit_of x ≡ bit_of y → Merging one two (out ++ x ∷ []) (i + 1) (j + 1)
      same e = (
        omega (arith, li),
        omega (arith, lj),
        subst (λ zs. IsMerging (bits_of one) (bits_of two) zs (bits_of (drop (i + 1) one))
            (bits_of (drop (j + 1) two))) (sym (map-append bit_of out (x ∷ [])))
            (take_both (bits_of one) (bits_of two) (bits_of out) (bit_of x)
            (bits_of (drop (i + 1) one)) (bits_of (drop (j + 1) two))
            (subst (λ b. IsMerging (bits_of one) (bits_of two) (bits_of out)
            (bit_of x ∷ bits_of (drop (i + 1) one)) (b ∷ bits_of (drop (j + 1) two)))
            (sym e) opened)),
      )

      by_order : (comes_before (bit_of x) (bit_of y) ≡ true) ⊎
          ((bit_of x ≡ bit_of y) ⊎ (comes_before (bit_of y) (bit_of x) ≡ true)) →
          Merging one two (out ++ x ∷ []) (i + 1) (j + 1)
      by_order (inl t) = absurd (true≢false (sym t ∙ h))
      by_order (inr (inl e)) = same e
      by_order (inr (inr t)) = absurd (true≢false (sym t ∙ k))
