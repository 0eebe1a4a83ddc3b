use Rattle.std.proofs.Common.{◌≡◌, filter, map, take}
use Rattle.surface_model.specs.Layout.{is_seam_check}
use Rattle.surface_model.specs.Measurements as measurements
use Rattle.slot_bits.specs.Seen.{bits_of}
use Rattle.slot_bits.proofs.observe.seam_checks.Given as goal

abbrev pub invariant-loop-corner : goal.invariant-loop-corner
invariant-loop-corner l =
    bits_of l.bits.items
    ≡ map measurements.Outcome
    (filter (is_seam_check l.schedule l.merge) (take l.corner-index l.corner-items))
