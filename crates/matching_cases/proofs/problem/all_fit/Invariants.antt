use Rattle.std.proofs.Common.{ℕ, ◌<◌, get_or}
use Rattle.graph_model.specs.declared.PartEdge.{PartEdge}
use Rattle.graph_model.specs.Problems.{IsPartEdge}
use Rattle.matching_cases.proofs.problem.all_fit.Given as goal

abbrev pub invariant-loop-edge : goal.invariant-loop-edge
invariant-loop-edge l = (k : ℕ) (d : PartEdge) → k < l.edge-index →
    IsPartEdge l.places (get_or l.edges k d)
