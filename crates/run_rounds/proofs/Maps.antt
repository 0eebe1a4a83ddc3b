-- The map of a schedule has a line for each slot, as long as the slot's row.
use Rattle.std.proofs.Common.{◌≡◌, ◌≤◌, ◌<◌, ℕ, suc, ◌+◌, Bool, List, [], length, get_or, sym, ap, ◌∙◌, arith, slice_index_or}
use Rattle.std.proofs.lemmas.List.FromFn.{length-map-range_with_len, get_or-map-range_with_len}
use Rattle.surface_model.specs.Schedules.{Schedule}
use Rattle.surface_model.specs.Layout.{last_slot}
use Rattle.surface_model.specs.Measurements.{bits_of_slot}
use Rattle.measure_map.specs.Placed.{Placed, before_slot, map_of}

slots_in_map : (s : Schedule) (m : Placed) → m ≡ map_of s → length m.lines ≡ last_slot s + 1
unfolding map_of
slots_in_map s m given = ap (λ (o : Placed). length o.lines) given
    ∙ length-map-range_with_len (bits_of_slot s) 0 (last_slot s + 1)

pub slot_in_map : (s : Schedule) (m : Placed) (t : ℕ) → m ≡ map_of s → t ≤ last_slot s →
    t < length m.lines
slot_in_map s m t given l = let long = slots_in_map s m given in omega (arith, l, long)

width_of_map : (s : Schedule) (t : ℕ) → t ≤ last_slot s → length (get_or (map_of s).lines t [])
    ≡ length (bits_of_slot s t)
unfolding map_of
width_of_map s t l = ap length (get_or-map-range_with_len (bits_of_slot s) 0 (last_slot s + 1) t t
    [] (omega (arith, l)) (omega arith))

pub width_is : (s : Schedule) (m : Placed) (t : ℕ) → m ≡ map_of s → t ≤ last_slot s →
    length (slice_index_or m.lines t []) ≡ length (bits_of_slot s t)
width_is s m t given l = ap (λ (o : Placed). length (get_or o.lines t [])) given
    ∙ width_of_map s t l

-- a row as long as its slot's line stands before the next slot
pub before_next_long : (s : Schedule) (m : Placed) (t : ℕ) (row : List Bool) →
    m ≡ map_of s → t ≤ last_slot s → length row ≡ length (bits_of_slot s t) →
    length row ≡ length (before_slot m.lines (t + 1))
before_next_long s m t row given l long =
    long ∙ sym (width_is s m t given l) ∙ ap (λ k. length (before_slot m.lines k)) (let k : suc t
    ≡ t + 1 = omega arith in k)
