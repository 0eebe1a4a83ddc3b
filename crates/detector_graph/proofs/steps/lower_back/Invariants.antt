use Rattle.detector_graph.specs.Steps.{AreLed}
use Rattle.detector_graph.proofs.steps.lower_back.Given as goal

abbrev pub invariant-loop-at : goal.invariant-loop-at
invariant-loop-at l = AreLed l.places l.edges l.homes.items
