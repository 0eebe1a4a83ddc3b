use Rattle.std.proofs.Common.{◌≡◌, ℕ, false, length, slice_index_or, take}
use Rattle.graph_model.specs.Graph.{flip_of}
use Rattle.graph_model.specs.Parity.{◌⊕◌}
use Rattle.pauli_frame.proofs.frame.turn_edges.Given as goal

-- the edges so far
abbrev pub invariant-loop-edge : goal.invariant-loop-edge
invariant-loop-edge l = record {
  len : length l.flips ≡ length l.fn.flips;
  value : (k : ℕ) → slice_index_or l.flips k false ≡ slice_index_or l.fn.flips k false
      ⊕ flip_of l.graph (take l.edge-index l.edge-items) k;
}
