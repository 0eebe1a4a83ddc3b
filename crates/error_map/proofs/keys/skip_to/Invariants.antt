use Rattle.std.proofs.Common.{◌-◌, length}
use Rattle.error_map.proofs.keys.skip_to.Given as goal

abbrev pub decreases-loop-at : goal.decreases-loop-at
decreases-loop-at l = length l.keys - l.at
