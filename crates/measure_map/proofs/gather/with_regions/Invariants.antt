use Rattle.std.proofs.Common.{◌≡◌, ◌||◌, take}
use Rattle.std.specs.List.{list_any}
use Rattle.surface_model.specs.Measurements.{Bit}
use Rattle.slot_bits.specs.Order.{IsRising, has_bit, is_outcome_in}
use Rattle.slot_bits.specs.Seen.{bits_of}
use Rattle.measure_map.proofs.gather.with_regions.Given as goal

abbrev pub invariant-loop-region : goal.invariant-loop-region
invariant-loop-region l =
    IsRising (bits_of l.bits.items)
    × ((b : Bit) → has_bit (bits_of l.bits.items) b ≡ has_bit (bits_of l.initial.bits.items) b
    || list_any (λ r. is_outcome_in r b) (take l.region-index l.regions))
