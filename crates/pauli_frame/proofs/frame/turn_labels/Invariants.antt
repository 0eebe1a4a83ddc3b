use Rattle.std.proofs.Common.{◌≡◌, ◌==◌, ℕ, false, length, slice_index_or, take}
use Rattle.graph_model.specs.Parity.{◌⊕◌, parity}
use Rattle.pauli_frame.proofs.frame.turn_labels.Given as goal

-- the labels so far
abbrev pub invariant-loop-label : goal.invariant-loop-label
invariant-loop-label l = record {
  len : length l.flips ≡ length l.fn.flips;
  value : (k : ℕ) → slice_index_or l.flips k false ≡ slice_index_or l.fn.flips k false
      ⊕ parity (λ x. x == k) (take l.label-index l.label-items);
}
