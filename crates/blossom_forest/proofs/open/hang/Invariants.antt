use Rattle.std.proofs.Common.{◌≡◌, ◌≢◌, ◌<◌}
use Rattle.blossom_nest.specs.Nests.{no_set, parent_of}
use Rattle.blossom_forest.proofs.open.hang.Given as goal

abbrev pub invariant-loop-step : goal.invariant-loop-step
invariant-loop-step l = record {
  vertices : l.trees.vertices ≡ l.fn.trees.vertices;
  trees : l.trees.trees ≡ l.fn.trees.trees;
  below : l.inner < no_set l.nest;
  inside : parent_of l.nest l.inner ≢ no_set l.nest;
}
