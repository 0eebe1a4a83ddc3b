use Rattle.std.proofs.Common.{drop}
use Rattle.link_lists.specs.Lists.{IsApart}
use Rattle.blossom_forest.proofs.ring.are_apart.Given as goal

abbrev pub invariant-loop-at : goal.invariant-loop-at
invariant-loop-at l = IsApart (drop l.at l.sets) → IsApart l.sets
