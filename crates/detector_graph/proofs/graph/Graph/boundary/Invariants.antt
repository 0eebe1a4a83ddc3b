use Rattle.std.proofs.Common.{◌≡◌, ℕ, false, length, take, slice_index_or}
use Rattle.graph_model.specs.Graph.{boundary}
use Rattle.detector_graph.proofs.graph.Graph.boundary.Given as goal

-- the places are those of the edges so far
abbrev pub invariant-loop-number : goal.invariant-loop-number
invariant-loop-number l = record {
  len : length l.ends ≡ l.self.vertices;
  so_far : (v : ℕ) → slice_index_or l.ends v false
      ≡ boundary l.self (take l.number-index l.number-items) v;
}
