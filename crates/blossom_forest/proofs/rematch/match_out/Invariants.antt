use Rattle.std.proofs.Common.{◌<◌}
use Rattle.blossom_forest.specs.Trees.{IsRematched}
use Rattle.blossom_forest.proofs.rematch.match_out.Given as goal

abbrev pub invariant-loop-step : goal.invariant-loop-step
invariant-loop-step l = record {
  same : IsRematched l.fn.trees l.trees;
  here : l.here < l.fn.trees.vertices;
  there : l.there < l.fn.trees.vertices;
}
