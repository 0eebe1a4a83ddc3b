use Rattle.std.proofs.Common.{◌≡◌, ◌<◌, ◌≤◌, ◌||◌, ℕ, false, length, slice_index_or}
use Rattle.graph_model.specs.Graph.{is_in}
use Rattle.graph_model.specs.Parity.{parity}
use Rattle.release_gate.specs.Operations.{labels_of, timed_at}
use Rattle.release_gate.proofs.needed.mark_all.Given as goal

-- the operations so far are marked, and the others as they were
abbrev pub invariant-loop-at : goal.invariant-loop-at
invariant-loop-at l = record {
  len : length l.touched ≡ length l.fn.touched;
  behind : (k : ℕ) → k < l.at → slice_index_or l.touched k false
      ≡ slice_index_or l.fn.touched k false || parity (is_in l.mask) (labels_of (timed_at l.ops k));
  ahead : (k : ℕ) → l.at ≤ k → slice_index_or l.touched k false
      ≡ slice_index_or l.fn.touched k false;
}
