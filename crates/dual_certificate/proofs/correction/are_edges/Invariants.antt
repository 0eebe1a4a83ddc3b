use Rattle.std.proofs.Common.{ℕ, ◌<◌, map, get_or, Contains}
use Rattle.graph_model.specs.declared.PartEdge.{PartEdge}
use Rattle.dual_certificate.proofs.correction.are_edges.Given as goal

abbrev pub invariant-loop-number : goal.invariant-loop-number
invariant-loop-number l = (k d : ℕ) → k < l.number-index →
    Contains (map (λ (edge : PartEdge). edge.edge) l.problem.part.edges) (get_or l.set k d)
