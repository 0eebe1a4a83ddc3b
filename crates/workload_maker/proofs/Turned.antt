-- Bits that errors turn, one place after another.
use Rattle.std.proofs.Common.{◌≡◌, ℕ, ◌+◌, ◌<◌, ◌≤◌, ◌==◌, ◌&&◌, ⊎_elim, Bool, true, false, length, filter, slice_get, Option, Some, None, refl, sym, ap, ◌∙◌, arith, eqb-true}
use Rattle.std.specs.Prelude.{nat_lt}
use Rattle.std.specs.List.{range_with_len}
use Rattle.std.specs.Option.{option_map_or}
use Rattle.std.proofs.lemmas.Bool.{and_left, cases_lt, false_from_ne_true, lt-ltb, ltb-true, ne_eqb}
use Rattle.std.proofs.lemmas.Option.{slice_get_within}
use Rattle.graph_model.specs.Parity.{parity}
use Rattle.graph_model.proofs.Members.{is_in-range, parity-filter, parity-none_in, parity-one, parity-same_in}
use Rattle.graph_model.proofs.Parities.{parity-flat_map, parity-map, parity-same}
use Rattle.surface_model.specs.Schedules.{Schedule}
use Rattle.surface_model.specs.Layout.{last_slot}
use Rattle.surface_model.specs.Measurements.{Bit, bits_of_slot}
use Rattle.surface_model.specs.Errors.{Mechanism, flips_bit}
use Rattle.error_map.specs.Changes.{changed_at, changed_bits, changes_place}
use Rattle.workload_maker.specs.Turns.{is_place}

-- ---- each bit that an error changes is listed once

-- one number below a bound is looked for
parity_below : (p : ℕ → Bool) (k n : ℕ) →
    parity (λ j. p j && j == k) (range_with_len 0 n) ≡ nat_lt k n && p k
parity_below p k n =
    ⊎_elim
    (λ (l : k < n). parity-same_in (λ j. p j && j == k) (λ j. j == k && p k) (range_with_len 0 n)
    (λ j m. turned (p j) (p k) (j == k) (λ e. ap p (eqb-true j k e)))
    ∙ parity-one (p k) k 0 n (omega arith) (omega (arith, l))
    ∙ sym (ap (λ t. t && p k) (lt-ltb k n l)))
    (λ (l : n ≤ k). parity-none_in (λ j. p j && j == k) (range_with_len 0 n)
    (λ j m. let h = is_in-range 0 n j m in
    no_other (p j) (j == k) (ne_eqb j k (λ e. omega (arith, h.1, l, e))))
    ∙ sym (and_left (nat_lt k n) (p k) (false_from_ne_true (nat_lt k n)
    (λ t. let s = ltb-true k n t in omega (arith, s, l)))))
    (cases_lt k n)
  where
    turned : (a b t : Bool) → (t ≡ true → a ≡ b) → a && t ≡ t && b
    turned true true true h = refl
    turned true false true h = h refl
    turned false true true h = h refl
    turned false false true h = refl
    turned true b false h = refl
    turned false b false h = refl

    no_other : (a t : Bool) → t ≡ false → a && t ≡ false
    no_other true t e = e
    no_other false t e = refl

module _ (s : Schedule) (e : Mechanism) (t k : ℕ) where
  -- past a line's end nothing changes
  none_past : (u : ℕ) → nat_lt k (length (bits_of_slot s u)) && changes_place s e u k
      ≡ changes_place s e u k
  none_past u = by_bit (slice_get (bits_of_slot s u) k) refl
    where
      by_bit : (o : Option Bit) → slice_get (bits_of_slot s u) k ≡ o →
          nat_lt k (length (bits_of_slot s u))
          && option_map_or (λ bit. flips_bit s e (record { slot = u; bit = bit })) o false
          ≡ option_map_or (λ bit. flips_bit s e (record { slot = u; bit = bit })) o false
      by_bit (Some bit) h =
          ap (λ b. b && flips_bit s e (record { slot = u; bit = bit }))
          (lt-ltb k (length (bits_of_slot s u)) (slice_get_within (bits_of_slot s u) k bit h))
      by_bit None h = no_more (nat_lt k (length (bits_of_slot s u)))
        where
          no_more : (b : Bool) → b && false ≡ false
          no_more true = refl
          no_more false = refl

  in_slot : (u : ℕ) → parity (is_place t k) (changed_at s e u) ≡ u == t && changes_place s e u k
  in_slot u =
      let n = length (bits_of_slot s u) in
      parity-map (is_place t k) (λ j. (u, j)) (filter (changes_place s e u) (range_with_len 0 n))
      ∙ parity-filter (λ j. u == t && j == k) (changes_place s e u) (range_with_len 0 n)
      ∙ by_slot (u == t)
    where
      by_slot : (b : Bool) →
          parity (λ j. changes_place s e u j && (b && j == k))
          (range_with_len 0 (length (bits_of_slot s u))) ≡ b && changes_place s e u k
      by_slot true =
          parity_below (changes_place s e u) k (length (bits_of_slot s u)) ∙ none_past u
      by_slot false =
          parity-none_in (λ j. changes_place s e u j && false)
          (range_with_len 0 (length (bits_of_slot s u)))
          (λ j m. nothing (changes_place s e u j))
        where
          nothing : (b : Bool) → b && false ≡ false
          nothing true = refl
          nothing false = refl

  pub changed_once : parity (is_place t k) (changed_bits s e)
      ≡ nat_lt t (last_slot s + 1) && changes_place s e t k
  unfolding changed_bits
  changed_once =
      parity-flat_map (is_place t k) (changed_at s e) (range_with_len 0 (last_slot s + 1))
      ∙ parity-same (λ u. parity (is_place t k) (changed_at s e u))
      (λ u. changes_place s e u k && u == t) (λ u. in_slot u ∙ swapped (u == t) _)
      (range_with_len 0 (last_slot s + 1))
      ∙ parity_below (λ u. changes_place s e u k) t (last_slot s + 1)
    where
      swapped : (a b : Bool) → a && b ≡ b && a
      swapped true true = refl
      swapped true false = refl
      swapped false true = refl
      swapped false false = refl
