-- The map of a schedule, from its parts.
use Rattle.std.proofs.Common.{◌≡◌, ◌^◌, ◌<◌, ◌≤◌, ◌+◌, arith, ℕ, List, [], length, map, get_or, ap, sym, ◌∙◌, subst}
use Rattle.std.specs.List.{range_with_len}
use Rattle.std.specs.Prelude.{Some, slice_get}
use Rattle.std.proofs.lemmas.List.{length-map}
use Rattle.std.proofs.lemmas.List.FromFn.{length-map-range_with_len}
use Rattle.std.proofs.lemmas.Option.{get_or_from_slice_get}
use Rattle.surface_model.specs.Schedules.{Schedule}
use Rattle.surface_model.specs.Layout.{last_slot}
use Rattle.surface_model.specs.Limits.{most_slots}
use Rattle.surface_model.specs.Measurements.{Bit, bits_of_slot, detectors, observables}
use Rattle.surface_model.proofs.Ranges.{few_slots}
use Rattle.measure_map.specs.Placed.{IsMap, Placed, PlacedDetector, PlacedObservable, map_of, placed_detector, placed_observable}
use Rattle.slot_bits.specs.Order.{IsRising}
use Rattle.slot_bits.proofs.Lines.{slot_rising}
use Rattle.measure_map.proofs.Slotwise.{few_in_line, line_at}

pub map_made : (s : Schedule) (lines : List (List Bit)) (ds : List PlacedDetector)
    (os : List PlacedObservable) →
    lines ≡ map (bits_of_slot s) (range_with_len 0 (last_slot s + 1)) →
    ds ≡ map (placed_detector s) (detectors s) →
    os ≡ map (placed_observable s) (observables s) → record {
      lines = lines;
      detectors = ds;
      observables = os;
    } ≡ map_of s
unfolding map_of
map_made s lines ds os l d o =
    let all = map (bits_of_slot s) (range_with_len 0 (last_slot s + 1)) in
    let first : Placed = record { lines = lines; detectors = ds; observables = os } in
    let second : Placed = record { lines = all; detectors = ds; observables = os } in
    let third : Placed =
    record {
      lines = all;
      detectors = map (placed_detector s) (detectors s);
      observables = os;
    } in
    let a : first ≡ second = ap (λ xs. record { lines = xs; detectors = ds; observables = os }) l in
    let b : second ≡ third =
    ap (λ xs. record { lines = all; detectors = xs; observables = os }) d in
    a ∙ b ∙ ap (λ xs. record {
      lines = all;
      detectors = map (placed_detector s) (detectors s);
      observables = xs;
    }) o

map_lines : (s : Schedule) (m : Placed) → m ≡ map_of s →
    m.lines ≡ map (bits_of_slot s) (range_with_len 0 (last_slot s + 1))
unfolding map_of
map_lines s m e = ap (λ (p : Placed). p.lines) e

-- there are few slots
pub few_slots_in_map : (m : Placed) → IsMap m → length m.lines ≤ most_slots
few_slots_in_map m is =
    let few = few_slots is.schedule is.accepted.ranges in
    let long = ap length (map_lines is.schedule m is.given) in
    let mapped =
    length-map-range_with_len (bits_of_slot is.schedule) 0 (last_slot is.schedule + 1) in
    omega (arith, few, long, mapped)

-- a slot's bits are numbered by 32 bits
pub few_in_map : {X : Type 0} (f : X → Bit) (m : Placed) → IsMap m → (t : ℕ) (line : List X) →
    slice_get m.lines t ≡ Some (map f line) → length line < 2 ^ 32
few_in_map f m is t line e =
    few_in_line f is.schedule is.accepted.ranges t line
    (line_at is.schedule (last_slot is.schedule + 1) m.lines (map_lines is.schedule m is.given)
    t (map f line) e)

pub length_in_map : {X : Type 0} (f : X → Bit) (lines : List (List Bit)) (t : ℕ) (line : List X) →
    slice_get lines t ≡ Some (map f line) → length line ≡ length (get_or lines t [])
length_in_map f lines t line e =
    sym (length-map line f) ∙ ap length (sym (get_or_from_slice_get lines t (map f line) [] e))

-- they rise
pub rising_in_map : {X : Type 0} (f : X → Bit) (m : Placed) → IsMap m → (t : ℕ) (line : List X) →
    slice_get m.lines t ≡ Some (map f line) → IsRising (map f line)
rising_in_map f m is t line e =
    subst IsRising
    (sym (line_at is.schedule (last_slot is.schedule + 1) m.lines
    (map_lines is.schedule m is.given) t (map f line) e)) (slot_rising is.schedule t)
