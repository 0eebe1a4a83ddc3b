use Rattle.std.proofs.Common.{◌≡◌, ◌≤◌, ◌*◌, length, map}
use Rattle.std.specs.List.{range_with_len}
use Rattle.slot_bits.specs.Lines.{bits_before, most_on_board}
use Rattle.measure_map.specs.Slots.{detectors_before}
use Rattle.slot_bits.specs.Seen.{bits_of}
use Rattle.measure_map.proofs.building.count.Given as goal

abbrev pub invariant-loop-slot : goal.invariant-loop-slot
invariant-loop-slot l = record {
  count : l.counted.count ≡ length (detectors_before l.schedule l.slot);
  bits : bits_of l.counted.bits.items ≡ bits_before l.schedule l.slot;
  few : l.counted.count ≤ l.slot * most_on_board;
  starts : l.starts.items ≡ map (λ t. length (detectors_before l.schedule t))
      (range_with_len 0 l.slot);
}
