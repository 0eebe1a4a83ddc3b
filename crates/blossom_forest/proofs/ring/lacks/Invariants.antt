use Rattle.std.proofs.Common.{drop}
use Rattle.link_lists.specs.Lists.{Lacks}
use Rattle.blossom_forest.proofs.ring.lacks.Given as goal

abbrev pub invariant-loop-other : goal.invariant-loop-other
invariant-loop-other l = Lacks l.set (drop l.other-index l.sets) → Lacks l.set l.sets
