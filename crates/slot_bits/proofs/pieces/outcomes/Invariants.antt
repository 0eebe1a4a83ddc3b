use Rattle.std.proofs.Common.{◌≡◌, map, take}
use Rattle.surface_model.specs.Measurements as measurements
use Rattle.slot_bits.specs.Seen.{bits_of}
use Rattle.slot_bits.proofs.pieces.outcomes.Given as goal

abbrev pub invariant-loop-corner : goal.invariant-loop-corner
invariant-loop-corner l =
    bits_of l.bits.items ≡ map measurements.Outcome (take l.corner-index l.corner-items)
