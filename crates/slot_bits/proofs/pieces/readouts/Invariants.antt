use Rattle.std.proofs.Common.{◌≡◌, ◌++◌, map}
use Rattle.surface_model.specs.Measurements as measurements
use Rattle.patch_layout.proofs.Areas.{line, rows}
use Rattle.slot_bits.specs.Seen.{bits_of}
use Rattle.slot_bits.proofs.pieces.readouts.Given as goal

abbrev pub invariant-loop-row : goal.invariant-loop-row
invariant-loop-row l =
    bits_of l.bits.items ≡ map measurements.Readout (rows l.top l.row l.left l.right)

abbrev pub invariant-loop-col : goal.invariant-loop-col
invariant-loop-col l =
    bits_of l.bits.items
    ≡ map measurements.Readout (rows l.top l.row l.left l.right ++ line l.row l.left l.col)
