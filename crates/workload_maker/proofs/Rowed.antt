-- Rows by their bits.
use Rattle.std.proofs.Common.{◌≡◌, ℕ, zero, suc, ◌+◌, ◌<◌, ◌≤◌, ◌&&◌, ⊎_elim, Bool, false, List, [], ◌∷◌, length, map, take, drop, get_or, slice_get, refl, sym, ap, ◌∙◌, subst, arith}
use Rattle.std.specs.Prelude.{nat_lt}
use Rattle.std.specs.List.{range_with_len}
use Rattle.std.specs.Option.{option_map_or}
use Rattle.std.proofs.lemmas.Bool.{cases_lt, false_from_ne_true, lt-ltb, ltb-true}
use Rattle.std.proofs.lemmas.List.{get_or_past, length-map, map-append, take_more}
use Rattle.std.proofs.lemmas.List.FromFn.{get_or-map-range_with_len, length-map-range_with_len}
use Rattle.graph_model.specs.Parity.{◌⊕◌, parity}
use Rattle.graph_model.proofs.Parities.{parity-none, parity-same, parity_push}
use Rattle.surface_model.specs.Schedules.{Schedule}
use Rattle.surface_model.specs.Layout.{last_slot}
use Rattle.surface_model.specs.Measurements.{Bit, bits_of_slot}
use Rattle.surface_model.specs.Errors.{Mechanism, flips_bit}
use Rattle.error_map.specs.Changes.{changed_bits, changes_place}
use Rattle.workload_maker.specs.Inputs.{row_of, rows_of}
use Rattle.workload_maker.specs.Turns.{bit_in, is_place}
use Rattle.workload_maker.proofs.Turned.{changed_once}

-- ---- two lists of rows with the same bits

same_row : (xs ys : List Bool) → length xs ≡ length ys →
    ((k : ℕ) → get_or xs k false ≡ get_or ys k false) → xs ≡ ys
same_row [] [] e h = refl
same_row [] (y ∷ ys) e h = absurd (omega (arith, e))
same_row (x ∷ xs) [] e h = absurd (omega (arith, e))
same_row (x ∷ xs) (y ∷ ys) e h =
    ap (λ z. z ∷ xs) (h 0) ∙ ap (λ zs. y ∷ zs) (same_row xs ys (omega (arith, e)) (λ k. h (suc k)))

same_rows : (xs ys : List (List Bool)) → map length xs ≡ map length ys →
    ((t k : ℕ) → bit_in xs t k ≡ bit_in ys t k) → xs ≡ ys
same_rows [] [] e h = refl
same_rows [] (y ∷ ys) e h =
    let l : 0 ≡ suc (length (map length ys)) = ap length e in absurd (omega (arith, l))
same_rows (x ∷ xs) [] e h =
    let l : suc (length (map length xs)) ≡ 0 = ap length e in absurd (omega (arith, l))
same_rows (x ∷ xs) (y ∷ ys) e h =
    ap (λ z. z ∷ xs) (same_row x y (ap (λ l. get_or l 0 0) e) (h 0))
    ∙ ap (λ zs. y ∷ zs) (same_rows xs ys (ap (drop 1) e) (λ t. h (suc t)))

-- ---- the rows with some errors

module _ (s : Schedule) (es : List Mechanism) where
  abbrev lines : List (List Bit)
  lines = map (bits_of_slot s) (range_with_len 0 (last_slot s + 1))

  bit_here : (t k : ℕ) → get_or (row_of s es t) k false
      ≡ parity (λ e. changes_place s e t k) es
  bit_here t k = by_bit (bits_of_slot s t) k
    where
      by_bit : (bits : List Bit) (k : ℕ) →
          get_or (map (λ bit. parity (λ e. flips_bit s e (record { slot = t; bit = bit })) es) bits)
          k false
          ≡ parity (λ e. option_map_or (λ bit. flips_bit s e (record { slot = t; bit = bit }))
          (slice_get bits k) false) es
      by_bit [] k = sym (parity-none (λ (e : Mechanism). false) (λ e. refl) es)
      by_bit (b ∷ bits) zero = refl
      by_bit (b ∷ bits) (suc k) = by_bit bits k

  bits_are : (t k : ℕ) → bit_in (rows_of s es) t k
      ≡ parity (λ e. parity (is_place t k) (changed_bits s e)) es
  unfolding rows_of
  bits_are t k =
      ⊎_elim
      (λ (l : t < last_slot s + 1).
      ap (λ r. get_or r k false)
      (get_or-map-range_with_len (row_of s es) 0 (last_slot s + 1) t t [] l (omega arith))
      ∙ bit_here t k
      ∙ parity-same (λ e. changes_place s e t k)
      (λ e. parity (is_place t k) (changed_bits s e))
      (λ e. sym (changed_once s e t k
      ∙ ap (λ b. b && changes_place s e t k) (lt-ltb t (last_slot s + 1) l))) es)
      (λ (l : last_slot s + 1 ≤ t).
      ap (λ r. get_or r k false) (get_or_past (map (row_of s es)
      (range_with_len 0 (last_slot s + 1))) t []
      (subst (λ n. n ≤ t) (sym (length-map-range_with_len (row_of s es) 0 (last_slot s + 1))) l))
      ∙ sym (parity-none (λ e. parity (is_place t k) (changed_bits s e))
      (λ e. changed_once s e t k ∙ ap (λ b. b && changes_place s e t k)
      (false_from_ne_true (nat_lt t (last_slot s + 1))
      (λ h. let m = ltb-true t (last_slot s + 1) h in omega (arith, m, l)))) es))
      (cases_lt t (last_slot s + 1))

  widths_are : map length (rows_of s es)
      ≡ map length (map (bits_of_slot s) (range_with_len 0 (last_slot s + 1)))
  unfolding rows_of
  widths_are = each (range_with_len 0 (last_slot s + 1))
    where
      each : (ts : List ℕ) → map length (map (row_of s es) ts)
          ≡ map length (map (bits_of_slot s) ts)
      each [] = refl
      each (t ∷ ts) =
          ap (λ n. n ∷ map length (map (row_of s es) ts))
          (length-map (bits_of_slot s t)
          (λ bit. parity (λ e. flips_bit s e (record { slot = t; bit = bit })) es))
          ∙ ap (λ ns. length (bits_of_slot s t) ∷ ns) (each ts)

pub rows_are : (s : Schedule) (es : List Mechanism) (rows : List (List Bool)) →
    map length rows ≡ map length (map (bits_of_slot s) (range_with_len 0 (last_slot s + 1))) →
    ((t k : ℕ) → bit_in rows t k ≡ parity (λ e. parity (is_place t k) (changed_bits s e)) es) →
    rows ≡ rows_of s es
rows_are s es rows widths bits =
    same_rows rows (rows_of s es) (widths ∙ sym (widths_are s es))
    (λ t k. bits t k ∙ sym (bits_are s es t k))

-- ---- one error more

pub error_more : {X : Type 0} (f : X → Mechanism) (s : Schedule) (xs : List X) (i : ℕ) (d : X)
    (now new : List (List Bool)) → i < length xs →
    ((t k : ℕ) → bit_in now t k
    ≡ parity (λ e. parity (is_place t k) (changed_bits s e)) (map f (take i xs))) →
    ((t k : ℕ) → bit_in new t k
    ≡ bit_in now t k ⊕ parity (is_place t k) (changed_bits s (f (get_or xs i d)))) →
    (t k : ℕ) → bit_in new t k
    ≡ parity (λ e. parity (is_place t k) (changed_bits s e)) (map f (take (i + 1) xs))
error_more f s xs i d now new l was more t k =
    let test : Mechanism → Bool = λ e. parity (is_place t k) (changed_bits s e) in
    more t k ∙ ap (λ b. b ⊕ test (f (get_or xs i d))) (was t k)
    ∙ sym (parity_push test (map f (take i xs)) (f (get_or xs i d)))
    ∙ ap (parity test) (sym (map-append f (take i xs) (get_or xs i d ∷ [])))
    ∙ ap (λ ys. parity test (map f ys)) (sym (take_more xs i d l))
