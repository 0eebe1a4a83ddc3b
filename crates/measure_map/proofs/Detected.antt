-- The detectors of a slot, from the bits of its line and of the line before.
use Rattle.std.proofs.Common.{◌≡◌, ℕ, zero, suc, Bool, true, false, cond, ◌&&◌, ◌||◌, refl, sym, ap, ◌∙◌, List, [], ◌∷◌, ◌++◌, map, filter, length, Option, Some, None}
use Rattle.std.specs.Prelude.{option_map, is_some}
use Rattle.std.specs.List.{filter_map, flat_map, cons_option}
use Rattle.std.specs.Option.{option_map_or}
use Rattle.std.proofs.lemmas.Bool.{false≢true, true≢false}
use Rattle.graph_model.proofs.Orders.{rises_filter, any_filter}
use Rattle.surface_model.specs.Schedules.{Schedule}
use Rattle.surface_model.specs.Layout.{Place, board, board_height, board_width, is_check_at}
use Rattle.surface_model.specs.Measurements.{Bit, Readout, Outcome, Measurement, same_bit, Detector, bits_of_slot, was_check, is_prepared, is_finished, detector_bits, detector_at, going_on, outcome, earlier_outcome, readouts, was_supported}
use Rattle.surface_model.specs.Accepted.{IsAccepted}
use Rattle.surface_model.specs.Tags.{tag_of}
use Rattle.surface_laws.proofs.Sound.{Sound}
use Rattle.surface_laws.proofs.Acceptance.{sound}
use Rattle.slot_bits.specs.Order.{precedes, comes_before, IsRising, has_bit}
use Rattle.measure_map.specs.Placed.{PlacedDetector, detectors_of, placed_detector}
use Rattle.slot_bits.specs.Lines.{bits_before}
use Rattle.measure_map.specs.Slots.{is_watched, places_round}
use Rattle.slot_bits.proofs.Rising.{rising_same, same_bit_is}
use Rattle.slot_bits.proofs.Places.{has_place, has-filter, area_ascends, outcomes_rise, has_outcomes, no_outcomes}
use Rattle.slot_bits.proofs.Lines.{slot_outcome, check_on_board, on_board_test}
use Rattle.measure_map.proofs.Detecting.{places_as, finished_at}

-- ---- the detector at a corner

pub none_at : (s : Schedule) (t : ℕ) (c : Place) → is_watched s t c ≡ false →
    option_map (placed_detector s) (detector_at s t c) ≡ None
none_at s t c h = by_bits (detector_bits s t c) h
  where
    by_bits : (o : Option (List Measurement)) → is_some o ≡ false →
        option_map (placed_detector s)
        (option_map_or (λ bits. Some (record { slot = t; corner = c; bits = bits })) o None) ≡ None
    by_bits (Some bits) h = absurd (true≢false h)
    by_bits None h = refl

pub some_at : (s : Schedule) → IsAccepted s → (t : ℕ) (c : Place) (places : List (ℕ × ℕ)) →
    is_watched s t c ≡ true → places ≡ places_round t (bits_before s t) (bits_of_slot s t) c →
    Some (record {
      tag = tag_of s (record { slot = t; corner = c; bits = [] });
      corner = c;
      bits = places;
    }) ≡ option_map (placed_detector s) (detector_at s t c)
some_at s a t c places h e = by_bits (detector_bits s t c) refl h
  where
    by_bits : (o : Option (List Measurement)) → detector_bits s t c ≡ o → is_some o ≡ true →
        Some (record {
          tag = tag_of s (record { slot = t; corner = c; bits = [] });
          corner = c;
          bits = places;
        }) ≡ option_map (placed_detector s)
        (option_map_or (λ bits. Some (record { slot = t; corner = c; bits = bits })) o None)
    by_bits (Some bits) k h =
        ap (λ ps. Some (record {
          tag = tag_of s (record { slot = t; corner = c; bits = [] });
          corner = c;
          bits = ps;
        })) (e ∙ sym (places_as s a t c bits k))
    by_bits None k h = absurd (false≢true h)

-- ---- those of a slot

abbrev is_outcome : Bit → Bool
is_outcome (Readout q) = false
is_outcome (Outcome c) = true

has-filter-bits : (p : Bit → Bool) (xs : List Bit) (b : Bit) →
    has_bit (filter p xs) b ≡ p b && has_bit xs b
has-filter-bits p xs b = any_filter same_bit same_bit_is p xs b

module _ (s : Schedule) (a : IsAccepted s) (t : ℕ) where
  ok : Sound s
  ok = sound s a

  abbrev D : Bit → List PlacedDetector
  D = detectors_of s t

  abbrev at : Place → Option PlacedDetector
  at c = option_map (placed_detector s) (detector_at s t c)

  drop_readouts : (xs : List Bit) → flat_map D xs ≡ flat_map D (filter is_outcome xs)
  drop_readouts [] = refl
  drop_readouts (Readout q ∷ xs) = drop_readouts xs
  drop_readouts (Outcome c ∷ xs) = ap (λ zs. D (Outcome c) ++ zs) (drop_readouts xs)

  cons_append : (o : Option PlacedDetector) (ds : List PlacedDetector) →
      cons_option o [] ++ ds ≡ cons_option o ds
  cons_append (Some d) ds = refl
  cons_append None ds = refl

  as_outcomes : (cs : List Place) → flat_map D (map Outcome cs) ≡ filter_map at cs
  as_outcomes [] = refl
  as_outcomes (c ∷ cs) =
      ap (λ zs. D (Outcome c) ++ zs) (as_outcomes cs) ∙ cons_append (at c) (filter_map at cs)

  skipped : (p : Place → Bool) (cs : List Place) → ((c : Place) → p c ≡ false → at c ≡ None) →
      filter_map at (filter p cs) ≡ filter_map at cs
  skipped p [] h = refl
  skipped p (c ∷ cs) h = by_test (p c) refl (skipped p cs h)
    where
      by_test : (b : Bool) → p c ≡ b → filter_map at (filter p cs) ≡ filter_map at cs →
          filter_map at (cond b (c ∷ filter p cs) (filter p cs))
          ≡ cons_option (at c) (filter_map at cs)
      by_test true e k = ap (cons_option (at c)) k
      by_test false e k = k ∙ sym (ap (λ o. cons_option o (filter_map at cs)) (h c e))

  mapped : (cs : List Place) →
      filter_map at cs ≡ map (placed_detector s) (filter_map (detector_at s t) cs)
  mapped [] = refl
  mapped (c ∷ cs) = by_value (detector_at s t c) (mapped cs)
    where
      by_value : (o : Option Detector) →
          filter_map at cs ≡ map (placed_detector s) (filter_map (detector_at s t) cs) →
          cons_option (option_map (placed_detector s) o) (filter_map at cs)
          ≡ map (placed_detector s) (cons_option o (filter_map (detector_at s t) cs))
      by_value (Some d) e = ap (λ ds. placed_detector s d ∷ ds) e
      by_value None e = e

  abbrev either : Place → Bool
  either c = was_check s t c || is_check_at s t c

  nothing_at : (c : Place) → either c ≡ false → at c ≡ None
  nothing_at c h =
      none_at s t c (by_parts (was_check s t c) refl (is_check_at s t c) (is_prepared s t c)
      (is_finished s t c) refl h)
    where
      by_parts : (w : Bool) → was_check s t c ≡ w → (x d f : Bool) → is_finished s t c ≡ f →
          w || x ≡ false →
          is_some (cond (x && w) (Some (going_on s t c))
          (cond (x && d) (Some (outcome t c ∷ []))
          (cond f (Some (earlier_outcome t c ++ readouts s t (was_supported s t c))) None)))
          ≡ false
      by_parts true v x d f g e = absurd (true≢false e)
      by_parts false v true d f g e = absurd (true≢false e)
      by_parts false v false d true g e = absurd (false≢true (sym v ∙ finished_at s a t c t g))
      by_parts false v false d false g e = refl

  earlier_has : (u : ℕ) (c : Place) → has_bit (bits_before s u) (Outcome c) ≡ was_check s u c
  earlier_has zero c = refl
  earlier_has (suc u) c = slot_outcome s ok u c

  was_on_board : (u : ℕ) (c : Place) → was_check s u c ≡ true → has_place (board s) c ≡ true
  was_on_board zero c h = absurd (false≢true h)
  was_on_board (suc u) c h = check_on_board s ok u c h

  either_on_board : (c : Place) → either c ≡ true → has_place (board s) c ≡ true
  either_on_board c h = by_test (was_check s t c) refl h
    where
      by_test : (w : Bool) → was_check s t c ≡ w → w || is_check_at s t c ≡ true →
          has_place (board s) c ≡ true
      by_test true e k = was_on_board t c e
      by_test false e k = check_on_board s ok t c k

  same_members : (all : List Bit) →
      ((b : Bit) → has_bit all b ≡ has_bit (bits_before s t) b || has_bit (bits_of_slot s t) b) →
      (b : Bit) → has_bit (filter is_outcome all) b
      ≡ has_bit (map Outcome (filter either (board s))) b
  same_members all h (Readout q) = has-filter-bits is_outcome all (Readout q)
      ∙ sym (no_outcomes (filter either (board s)) q)
  same_members all h (Outcome c) =
      has-filter-bits is_outcome all (Outcome c) ∙ h (Outcome c)
      ∙ ap (λ x. x || has_bit (bits_of_slot s t) (Outcome c)) (earlier_has t c)
      ∙ ap (λ x. was_check s t c || x) (slot_outcome s ok t c)
      ∙ sym (has_outcomes (filter either (board s)) c ∙ has-filter either (board s) c
      ∙ on_board_test (either c) (has_place (board s) c) (either_on_board c))

  pub slot_detectors : (all : List Bit) → IsRising all →
      ((b : Bit) → has_bit all b ≡ has_bit (bits_before s t) b || has_bit (bits_of_slot s t) b) →
      flat_map D all ≡ map (placed_detector s) (filter_map (detector_at s t) (board s))
  slot_detectors all r h =
      drop_readouts all
      ∙ ap (flat_map D) (rising_same (filter is_outcome all) (map Outcome (filter either (board s)))
      (rises_filter comes_before is_outcome all r)
      (outcomes_rise (filter either (board s))
      (rises_filter precedes either (board s) (area_ascends 0 0 (board_height s) (board_width s))))
      (same_members all h))
      ∙ as_outcomes (filter either (board s)) ∙ skipped either (board s) nothing_at
      ∙ mapped (board s)

pub counted_at : (s : Schedule) (t : ℕ) (c : Place) (w : Bool) → w ≡ is_watched s t c →
    cond {A = ℕ} w 1 0 ≡ length (detectors_of s t (Outcome c))
counted_at s t c w e = ap {B = ℕ} (λ b. cond b 1 0) e ∙ by_bits (detector_bits s t c)
  where
    by_bits : (o : Option (List Measurement)) →
        cond {A = ℕ} (is_some o) 1 0
        ≡ length (cons_option
        (option_map (placed_detector s)
        (option_map_or (λ bits. Some (record { slot = t; corner = c; bits = bits })) o None)) [])
    by_bits (Some bits) = refl
    by_bits None = refl
