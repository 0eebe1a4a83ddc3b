use Rattle.std.proofs.Common.{◌≢◌, ◌<◌, ◌+◌, ◌*◌}
use Rattle.blossom_nest.specs.Nests.{no_set, parent_of}
use Rattle.blossom_forest.specs.Trees.{IsRematched}
use Rattle.blossom_forest.proofs.expose.+expose.Given as goal

abbrev pub decreases-expose : goal.decreases-expose
decreases-expose l = 2 * l.depth

abbrev pub decreases-match_others : goal.decreases-match_others
decreases-match_others l = 2 * l.depth + 1

abbrev pub invariant-match_others-loop-step : goal.invariant-match_others-loop-step
invariant-match_others-loop-step l = record {
  same : IsRematched l.fn.trees l.trees;
  below : l.one < no_set l.nest;
  inside : parent_of l.nest l.one ≢ no_set l.nest;
}
