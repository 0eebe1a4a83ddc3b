-- The detectors of a slot in which nothing begins or ends: each of its bits is the outcome of a
-- check that goes on, and stands at the same place in the slot before.
use Rattle.std.proofs.Common.{◌≡◌, ◌<◌, ◌+◌, ◌-◌, ℕ, zero, suc, Bool, true, false, cond, ◌||◌, refl, sym, ap, ◌∙◌, subst, arith, List, [], ◌∷◌, ◌++◌, map, take, length, slice_get, get_or, Option, Some, None}
use Rattle.std.specs.Prelude.{is_some, option_map, position}
use Rattle.std.specs.List.{cons_option, filter_map, flat_map}
use Rattle.std.proofs.Math.Bool.{or_self}
use Rattle.std.proofs.lemmas.Bool.{true≢false, or_right}
use Rattle.std.proofs.lemmas.Grind.{flat_map-append}
use Rattle.std.proofs.lemmas.List.{take_more}
use Rattle.std.proofs.lemmas.Option.{get_or_from_slice_get, none-some, same_Some, slice_get_within}
use Rattle.surface_model.specs.Schedules.{Schedule}
use Rattle.surface_model.specs.Layout.{Place, board, covered}
use Rattle.surface_model.specs.Measurements.{Bit, Readout, Outcome, same_bit, bits_of_slot, detector_at}
use Rattle.surface_model.specs.Accepted.{IsAccepted}
use Rattle.surface_model.specs.Tags.{tag_of}
use Rattle.surface_laws.proofs.Acceptance.{sound}
use Rattle.timetable.specs.Times.{is_quiet}
use Rattle.slot_bits.specs.Order.{IsRising, comes_before, has_bit, rank_of}
use Rattle.slot_bits.specs.Lines.{bits_before}
use Rattle.slot_bits.proofs.Rising.{before_at, before_self, same_bit_self}
use Rattle.slot_bits.proofs.Searching.{place_found}
use Rattle.slot_bits.proofs.Lines.{slot_outcome, slot_readout, slot_rising}
use Rattle.measure_map.specs.Placed.{PlacedDetector, detectors_of, placed_detector}
use Rattle.measure_map.specs.Slots.{IsQuietAfter, found_places, one_place, places_round}
use Rattle.measure_map.proofs.Detected.{slot_detectors, some_at}
use Rattle.measure_map.proofs.Detecting.{some_position}
use Rattle.measure_map.proofs.Unchanged.{has_bits, quiet_line, quiet_same, unread}

-- ---- where a bit stands among rising ones

has_at : (xs : List Bit) (k : ℕ) (b : Bit) → slice_get xs k ≡ Some b → has_bit xs b ≡ true
has_at [] k b e = absurd (none-some b e)
has_at (x ∷ xs) zero b e =
    ap (λ t. t || has_bit xs b)
    (subst (λ y. same_bit b y ≡ true) (sym (same_Some x b e)) (same_bit_self b))
has_at (x ∷ xs) (suc k) b e = or_right (same_bit b x) (has_bit xs b) (has_at xs k b e)

rank_at : (xs : List Bit) → IsRising xs → (k : ℕ) (b : Bit) → slice_get xs k ≡ Some b →
    rank_of xs b ≡ k
rank_at [] r k b e = absurd (none-some b e)
rank_at (x ∷ xs) r zero b e =
    ap (λ t. cond t (rank_of xs b + 1) 0)
    (subst (λ y. comes_before y b ≡ false) (sym (same_Some x b e)) (before_self b))
rank_at (x ∷ xs) r (suc k) b e =
    let rest = rank_at xs r.1 k b e in
    ap (λ t. cond t (rank_of xs b + 1) 0) (before_at x xs b r.0 (has_at xs k b e))
    ∙ omega (arith, rest)

position_at : (xs : List Bit) → IsRising xs → (k : ℕ) (b : Bit) → slice_get xs k ≡ Some b →
    position (same_bit b) xs ≡ Some k
position_at xs r k b e =
    let n = rank_at xs r k b e in
    let here : get_or xs (rank_of xs b) b ≡ b = ap (λ i. get_or xs i b) n
    ∙ get_or_from_slice_get xs k b b e in
    let l = slice_get_within xs k b e in
    place_found xs b b r (omega (arith, n, l)) (ap (comes_before b) here ∙ before_self b)
    ∙ ap Some n

none_found : (t : ℕ) (line : List Bit) →
    ((q : Place) → position (same_bit (Readout q)) line ≡ None) → (qs : List Place) →
    found_places t line qs ≡ []
none_found t line h [] = refl
none_found t line h (q ∷ qs) =
    ap (λ o. cons_option (option_map (λ k. (t, k)) o) (found_places t line qs)) (h q)
    ∙ none_found t line h qs

-- ---- the detector of a bit

module _ (s : Schedule) (a : IsAccepted s) (u : ℕ) (quiet : is_quiet s (suc u) ≡ true) where
  abbrev line : List Bit
  line = bits_of_slot s (suc u)

  no_readout : (q : Place) → position (same_bit (Readout q)) line ≡ None
  no_readout q =
      by_place (position (same_bit (Readout q)) line)
      (some_position (same_bit (Readout q)) line ∙ slot_readout s (sound s a) (suc u) q
      ∙ unread s a u quiet q)
    where
      by_place : (o : Option ℕ) → is_some o ≡ false → o ≡ None
      by_place (Some k) h = absurd (true≢false h)
      by_place None h = refl

  lasting_places : (k : ℕ) (c : Place) → slice_get line k ≡ Some (Outcome c) →
      (suc u, k) ∷ (suc u - 1, k) ∷ [] ≡ places_round (suc u) (bits_before s (suc u)) line c
  lasting_places k c e =
      let here = position_at line (slot_rising s (suc u)) k (Outcome c) e in
      let there : position (same_bit (Outcome c)) (bits_before s (suc u)) ≡ Some k =
      ap (position (same_bit (Outcome c))) (quiet_same s a u quiet) ∙ here in
      sym (ap (λ o. (one_place (suc u) o
      ++ one_place (suc u - 1) (position (same_bit (Outcome c)) (bits_before s (suc u))))
      ++ found_places (suc u) line (covered c)) here
      ∙ ap (λ o. (one_place (suc u) (Some k) ++ one_place (suc u - 1) o)
      ++ found_places (suc u) line (covered c)) there
      ∙ ap (λ ps. ((suc u, k) ∷ (suc u - 1, k) ∷ []) ++ ps)
      (none_found (suc u) line no_readout (covered c)))

  lasting_here : (k : ℕ) (c : Place) → slice_get line k ≡ Some (Outcome c) →
      record {
        tag = tag_of s (record { slot = suc u; corner = c; bits = [] });
        corner = c;
        bits = (suc u, k) ∷ (suc u - 1, k) ∷ [];
      } ∷ [] ≡ detectors_of s (suc u) (Outcome c)
  lasting_here k c e =
      ap (λ o. cons_option o [])
      (some_at s a (suc u) c ((suc u, k) ∷ (suc u - 1, k) ∷ [])
      (has_bits s a u quiet c ∙ sym (slot_outcome s (sound s a) (suc u) c)
      ∙ has_at line k (Outcome c) e)
      (lasting_places k c e))

pub lasting_at : (s : Schedule) → IsAccepted s → (t : ℕ) → IsQuietAfter s t → (k : ℕ) (c : Place) →
    slice_get (bits_of_slot s t) k ≡ Some (Outcome c) →
    record {
      tag = tag_of s (record { slot = t; corner = c; bits = [] });
      corner = c;
      bits = (t, k) ∷ (t - 1, k) ∷ [];
    } ∷ [] ≡ detectors_of s t (Outcome c)
lasting_at s a zero h k c e = absurd (omega (arith, h.later))
lasting_at s a (suc u) h k c e = lasting_here s a u h.quiet k c e

-- ---- those of the slot

pub lasting_more : (s : Schedule) (t : ℕ) (b : Bit) (k : ℕ) (start now new : List PlacedDetector) →
    slice_get (bits_of_slot s t) k ≡ Some b →
    now ≡ start ++ flat_map (detectors_of s t) (take k (bits_of_slot s t)) →
    new ≡ now ++ detectors_of s t b →
    new ≡ start ++ flat_map (detectors_of s t) (take (k + 1) (bits_of_slot s t))
lasting_more s t b k start now new e is push =
    let line = bits_of_slot s t in
    let more : take (k + 1) line ≡ take k line ++ b ∷ [] =
    take_more line k b (slice_get_within line k b e)
    ∙ ap (λ x. take k line ++ x ∷ []) (get_or_from_slice_get line k b b e) in
    push ∙ ap (λ ds. ds ++ detectors_of s t b) is
    ∙ joined start (flat_map (detectors_of s t) (take k line)) (detectors_of s t b)
    ∙ ap (λ ds. start ++ (flat_map (detectors_of s t) (take k line) ++ ds))
    (sym (append-nil (detectors_of s t b)))
    ∙ ap (λ ds. start ++ ds) (sym (flat_map-append (detectors_of s t) (take k line) (b ∷ [])))
    ∙ ap (λ bits. start ++ flat_map (detectors_of s t) bits) (sym more)
  where
    joined : (xs ys zs : List PlacedDetector) → (xs ++ ys) ++ zs ≡ xs ++ (ys ++ zs)
    joined [] ys zs = refl
    joined (x ∷ xs) ys zs = ap (λ ws. x ∷ ws) (joined xs ys zs)

    append-nil : (xs : List PlacedDetector) → xs ++ [] ≡ xs
    append-nil [] = refl
    append-nil (x ∷ xs) = ap (λ ws. x ∷ ws) (append-nil xs)

pub lasting_all : (s : Schedule) → IsAccepted s → (t : ℕ) → IsQuietAfter s t →
    flat_map (detectors_of s t) (bits_of_slot s t)
    ≡ map (placed_detector s) (filter_map (detector_at s t) (board s))
lasting_all s a t h =
    slot_detectors s a t (bits_of_slot s t) (slot_rising s t)
    (λ b. sym (ap (λ bits. has_bit bits b || has_bit (bits_of_slot s t) b)
    (quiet_line s a t h.later h.quiet) ∙ or_self (has_bit (bits_of_slot s t) b)))
