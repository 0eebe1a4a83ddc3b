use Rattle.std.proofs.Common.{ℕ, ◌<◌, All}
use Rattle.matching_core.proofs.search.pairs_of.Given as goal

abbrev pub invariant-loop-vertex : goal.invariant-loop-vertex
invariant-loop-vertex l = All (λ (pair : ℕ × ℕ). (pair.0 < l.forest.vertices)
    × (pair.1 < l.forest.vertices)) l.pairs.items
