use Rattle.std.proofs.Common.{◌≡◌, take}
use Rattle.detector_graph.specs.Steps.{step_starts}
use Rattle.detector_graph.proofs.steps.step_starts.Given as goal

abbrev pub invariant-loop-edge : goal.invariant-loop-edge
invariant-loop-edge l = l.starts.items ≡ step_starts l.places (take l.edge-index l.edges)
