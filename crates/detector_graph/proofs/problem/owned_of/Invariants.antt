use Rattle.std.proofs.Common.{◌≡◌, take}
use Rattle.graph_model.specs.Problems.{owned_members}
use Rattle.detector_graph.proofs.problem.owned_of.Given as goal

abbrev pub invariant-loop-edge : goal.invariant-loop-edge
invariant-loop-edge l = l.kept ≡ owned_members l.part (take l.edge-index l.edge-items)
