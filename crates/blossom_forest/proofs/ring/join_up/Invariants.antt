use Rattle.std.proofs.Common.{◌≡◌, drop}
use Rattle.blossom_forest.specs.Trees.{joined_up}
use Rattle.blossom_forest.proofs.Joining.{with_joint}
use Rattle.blossom_forest.proofs.ring.join_up.Given as goal

abbrev pub invariant-loop-set : goal.invariant-loop-set
invariant-loop-set l = record {
  vertices : l.trees.vertices ≡ l.fn.trees.vertices;
  trees : l.trees.trees ≡ l.fn.trees.trees;
  same : l.trees ≡ with_joint l.fn.trees l.trees.joint;
  up : joined_up l.fn.trees l.trees.joint (drop l.set-index l.way)
      ≡ joined_up l.fn.trees l.fn.trees.joint l.way;
}
