use Rattle.std.specs.Prelude.{sum}
use Rattle.detector_graph.specs.Steps.{AreLed}
use Rattle.detector_graph.proofs.steps.homes_of.Given as goal

abbrev pub invariant-loop : goal.invariant-loop
invariant-loop l = AreLed l.places l.edges l.homes.items

abbrev pub decreases-loop : goal.decreases-loop
decreases-loop l = sum l.homes.items
