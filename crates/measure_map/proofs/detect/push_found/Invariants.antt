use Rattle.std.proofs.Common.{◌≡◌, ◌++◌, take}
use Rattle.std.specs.List.{flat_map}
use Rattle.measure_map.specs.Placed.{detectors_of}
use Rattle.slot_bits.specs.Seen.{bits_of}
use Rattle.measure_map.proofs.detect.push_found.Given as goal

abbrev pub invariant-loop-bit : goal.invariant-loop-bit
invariant-loop-bit l =
    l.detectors.items ≡ l.initial.detectors.items
    ++ flat_map (detectors_of l.view.schedule l.view.slot) (bits_of (take l.bit-index l.bit-items))
