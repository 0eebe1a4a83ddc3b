use Rattle.std.proofs.Common.{◌≡◌, ◌||◌, take}
use Rattle.std.specs.List.{list_any}
use Rattle.surface_model.specs.Measurements.{Bit}
use Rattle.patch_layout.specs.Items.{merge_line}
use Rattle.patch_layout.specs.Regions.{seam_region}
use Rattle.slot_bits.specs.Order.{IsRising, has_bit, is_readout_in}
use Rattle.slot_bits.specs.Seen.{bits_of}
use Rattle.measure_map.proofs.gather.with_seams.Given as goal

abbrev pub invariant-loop-number : goal.invariant-loop-number
invariant-loop-number l =
    IsRising (bits_of l.bits.items)
    × ((b : Bit) → has_bit (bits_of l.bits.items) b ≡ has_bit (bits_of l.initial.bits.items) b
    || list_any (λ n. is_readout_in (seam_region l.schedule (merge_line l.schedule n)) b)
    (take l.number-index l.splits))
