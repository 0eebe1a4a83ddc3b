use Rattle.std.proofs.Common.{drop}
use Rattle.std.specs.List.{AllByRecursion}
use Rattle.blossom_nest.specs.Nests.{IsOutermost}
use Rattle.blossom_forest.proofs.ring.are_outermost.Given as goal

abbrev pub invariant-loop-set : goal.invariant-loop-set
invariant-loop-set l = AllByRecursion (IsOutermost l.nest) (drop l.set-index l.sets) →
    AllByRecursion (IsOutermost l.nest) l.sets
