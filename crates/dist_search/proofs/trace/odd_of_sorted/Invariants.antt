use Rattle.std.proofs.Common.{◌-◌, length}
use Rattle.dist_search.proofs.Ways.{OddTo}
use Rattle.dist_search.proofs.trace.odd_of_sorted.Given as goal

abbrev pub invariant-loop-at : goal.invariant-loop-at
invariant-loop-at l = OddTo l.edges l.at l.set

abbrev pub decreases-loop-at : goal.decreases-loop-at
decreases-loop-at l = length l.edges - l.at
