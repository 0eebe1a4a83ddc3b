use Rattle.std.proofs.Common.{◌≡◌, take}
use Rattle.detector_graph.proofs.packed.packed.Given as goal

abbrev pub invariant-loop-edge : goal.invariant-loop-edge
invariant-loop-edge l = l.small.items ≡ take l.edge-index l.edges
