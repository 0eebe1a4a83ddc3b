use Rattle.std.proofs.Common.{◌-◌}
use Rattle.error_map.specs.Ends.{IsCut}
use Rattle.error_map.proofs.spots.earlier.Given as goal

abbrev pub invariant-loop-low : goal.invariant-loop-low
invariant-loop-low l = IsCut l.detectors (record { slot = l.slot; corner = l.corner }) l.low l.high

abbrev pub decreases-loop-low : goal.decreases-loop-low
decreases-loop-low l = l.high - l.low
