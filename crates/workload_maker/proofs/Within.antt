-- The bits that an error changes are bits of the rows.
use Rattle.std.proofs.Common.{◌≡◌, ℕ, ◌+◌, suc, ◌<◌, Bool, List, [], ◌∷◌, length, map, filter, flat_map, get_or, All, sym, ap, ◌∙◌, subst, arith}
use Rattle.std.specs.List.{range_with_len}
use Rattle.std.proofs.lemmas.List.{get_or-map, length-map}
use Rattle.std.proofs.lemmas.List.Elements.{All-append, All-filter, All-map, All-nil}
use Rattle.std.proofs.lemmas.List.FromFn.{get_or-map-range_with_len, length-map-range_with_len}
use Rattle.graph_model.proofs.Members.{all_within, is_in-range}
use Rattle.surface_model.specs.Schedules.{Schedule}
use Rattle.surface_model.specs.Layout.{last_slot}
use Rattle.surface_model.specs.Measurements.{Bit, bits_of_slot}
use Rattle.surface_model.specs.Errors.{Mechanism}
use Rattle.error_map.specs.Changes.{changed_at, changed_bits, changes_place}
use Rattle.measure_map.specs.Placed.{Placed, map_of}
use Rattle.workload_maker.specs.Turns.{AreWithin}

all_flat : {X Y : Type 0} (P : Y → Type 0) (f : X → List Y) (xs : List X) →
    All (λ x. All P (f x)) xs → All P (flat_map f xs)
all_flat P f [] h = All-nil P
all_flat P f (x ∷ xs) h =
    All-append P (f x) (flat_map f xs) (h 0 x (omega arith))
    (all_flat P f xs (λ k d l. h (suc k) d (omega (arith, l))))

module _ (s : Schedule) (rows : List (List Bool)) (widths : map length rows
    ≡ map length (map (bits_of_slot s) (range_with_len 0 (last_slot s + 1)))) where
  abbrev lines : List (List Bit)
  lines = map (bits_of_slot s) (range_with_len 0 (last_slot s + 1))

  long : length rows ≡ last_slot s + 1
  long = sym (length-map rows length) ∙ ap length widths ∙ length-map lines length
      ∙ length-map-range_with_len (bits_of_slot s) 0 (last_slot s + 1)

  wide : (t : ℕ) → t < last_slot s + 1 → length (bits_of_slot s t) ≡ length (get_or rows t [])
  wide t l =
      let in_rows : t < length rows = subst (λ n. t < n) (sym long) l in
      let in_lines : t < length lines = subst (λ n. t < n)
      (sym (length-map-range_with_len (bits_of_slot s) 0 (last_slot s + 1))) l in
      sym (ap length (get_or-map-range_with_len (bits_of_slot s) 0 (last_slot s + 1) t t [] l
      (omega arith)))
      ∙ sym (get_or-map length lines t [] 0 in_lines) ∙ sym (ap (λ ns. get_or ns t 0) widths)
      ∙ get_or-map length rows t [] 0 in_rows

  abbrev IsWithin : ℕ × ℕ → Type 0
  IsWithin place = (place.0 < length rows) × (place.1 < length (get_or rows place.0 []))

  slot_within : (e : Mechanism) (t : ℕ) → t < last_slot s + 1 → All IsWithin (changed_at s e t)
  slot_within e t l =
      let n = length (bits_of_slot s t) in
      All-map IsWithin (λ k. (t, k)) (filter (changes_place s e t) (range_with_len 0 n))
      (All-filter (changes_place s e t) (λ k. IsWithin (t, k)) (range_with_len 0 n)
      (all_within (λ k. IsWithin (t, k)) (range_with_len 0 n) (λ k m.
      let short = (is_in-range 0 n k m).1 in (
        subst (λ j. t < j) (sym long) l,
        subst (λ j. k < j) (wide t l) (omega (arith, short)),
      ))))

  changed_within : (e : Mechanism) → AreWithin rows (changed_bits s e)
  unfolding changed_bits
  changed_within e =
      all_flat IsWithin (changed_at s e) (range_with_len 0 (last_slot s + 1))
      (all_within (λ t. All IsWithin (changed_at s e t)) (range_with_len 0 (last_slot s + 1))
      (λ t m. let short = (is_in-range 0 (last_slot s + 1) t m).1 in
      slot_within e t (omega (arith, short))))

-- by the map of the schedule
pub lines_of : (s : Schedule) (m : Placed) → m ≡ map_of s →
    m.lines ≡ map (bits_of_slot s) (range_with_len 0 (last_slot s + 1))
unfolding map_of
lines_of s m e = ap (λ (x : Placed). x.lines) e

pub all_in_rows : (s : Schedule) (m : Placed) → m ≡ map_of s → (rows : List (List Bool)) →
    map length rows ≡ map length m.lines → (e : Mechanism) → AreWithin rows (changed_bits s e)
all_in_rows s m is rows widths e =
    changed_within s rows (widths ∙ ap (map length) (lines_of s m is)) e
