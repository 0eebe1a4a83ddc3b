use Rattle.std.proofs.Common.{◌<◌}
use Rattle.blossom_nest.specs.Nests.{no_set}
use Rattle.blossom_forest.proofs.climb.child_with.Given as goal

abbrev pub invariant-loop-step : goal.invariant-loop-step
invariant-loop-step l = l.here < no_set l.nest
