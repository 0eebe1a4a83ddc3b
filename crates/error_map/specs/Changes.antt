-- The bits that a mechanism changes, each by its slot and its place in that slot's line.
use Rattle.std.specs.Prelude.{ℕ, ◌+◌, Bool, false, List, length, map, filter, flat_map, slice_get}
use Rattle.std.specs.List.{range_with_len}
use Rattle.std.specs.Option.{option_map_or}
use Rattle.surface_model.specs.Schedules.{Schedule}
use Rattle.surface_model.specs.Layout.{last_slot}
use Rattle.surface_model.specs.Measurements.{bits_of_slot}
use Rattle.surface_model.specs.Errors.{Mechanism, flips_bit}

-- whether it changes the bit at this place of a slot's line
abbrev pub changes_place : Schedule → Mechanism → ℕ → ℕ → Bool
changes_place s e t k =
    option_map_or (λ bit. flips_bit s e (record { slot = t; bit = bit }))
    (slice_get (bits_of_slot s t) k) false

-- those of one slot, by their places
abbrev pub changed_at : Schedule → Mechanism → ℕ → List (ℕ × ℕ)
changed_at s e t =
    map (λ k. (t, k)) (filter (changes_place s e t) (range_with_len 0 (length (bits_of_slot s t))))

-- all of them, by slot and then by place
unfoldable pub changed_bits : Schedule → Mechanism → List (ℕ × ℕ)
changed_bits s e = flat_map (changed_at s e) (range_with_len 0 (last_slot s + 1))
