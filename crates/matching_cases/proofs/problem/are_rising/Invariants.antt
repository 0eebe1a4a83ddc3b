use Rattle.std.proofs.Common.{ℕ, ◌<◌, ◌+◌, get_or}
use Rattle.graph_model.proofs.PartEdges.{numbers_of}
use Rattle.matching_cases.proofs.problem.are_rising.Given as goal

abbrev pub invariant-loop-at : goal.invariant-loop-at
invariant-loop-at l = (k : ℕ) → k + 1 < l.at →
    get_or (numbers_of l.edges) k 0 < get_or (numbers_of l.edges) (k + 1) 0
