use Rattle.std.proofs.Common.{◌≡◌, take}
use Rattle.std.specs.List.{list_any}
use Rattle.surface_model.specs.Layout.{region_of_patch}
use Rattle.surface_model.specs.Measurements.{Bit}
use Rattle.patch_layout.specs.Items.{read_line}
use Rattle.slot_bits.specs.Order.{IsRising, has_bit, is_readout_in}
use Rattle.slot_bits.specs.Seen.{bits_of}
use Rattle.measure_map.proofs.gather.read_qubits.Given as goal

abbrev pub invariant-loop-number : goal.invariant-loop-number
invariant-loop-number l =
    IsRising (bits_of l.bits.items)
    × ((b : Bit) →
    has_bit (bits_of l.bits.items) b
    ≡ list_any (λ n. is_readout_in
    (region_of_patch l.schedule (read_line l.schedule n).patch) b)
    (take l.number-index l.reads))
