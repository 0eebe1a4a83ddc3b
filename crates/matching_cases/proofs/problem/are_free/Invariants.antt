use Rattle.std.proofs.Common.{ℕ, ◌<◌, ◌≡◌, ◌∷◌, [], Any}
use Rattle.graph_model.specs.declared.PartEdge.{PartEdge}
use Rattle.graph_model.specs.Problems.{places_of}
use Rattle.matching_cases.proofs.problem.are_free.Given as goal

abbrev pub invariant-loop-place : goal.invariant-loop-place
invariant-loop-place l = (place : ℕ) → place < l.place →
    Any (λ (edge : PartEdge). places_of edge ≡ place ∷ []) l.edges
