use Rattle.std.proofs.Common.{◌≡◌, ◌<◌, drop, reverse}
use Rattle.blossom_forest.specs.Trees.{joined_down, last_down, names}
use Rattle.blossom_forest.proofs.Joining.{with_joint}
use Rattle.blossom_forest.proofs.ring.join_down.Given as goal

abbrev pub invariant-loop-at : goal.invariant-loop-at
invariant-loop-at l = record {
  vertices : l.trees.vertices ≡ l.fn.trees.vertices;
  trees : l.trees.trees ≡ l.fn.trees.trees;
  above : l.above < names l.fn.trees.vertices;
  same : l.trees ≡ with_joint l.fn.trees l.trees.joint;
  down : joined_down l.fn.trees l.trees.joint l.above (drop l.at (reverse l.way))
      ≡ joined_down l.fn.trees l.fn.trees.joint l.common (reverse l.way);
  last : last_down l.above (drop l.at (reverse l.way)) ≡ last_down l.common (reverse l.way);
}
