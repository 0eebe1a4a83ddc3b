use Rattle.std.proofs.Common.{◌≡◌, ◌<◌, ℕ, [], length, slice_index_or}
use Rattle.release_gate.specs.Gated.{AreTouched}
use Rattle.window_model.specs.Windows.{window_at}
use Rattle.release_gate.proofs.needed.touched_by_window.Given as goal

-- the windows so far
abbrev pub invariant-loop-window : goal.invariant-loop-window
invariant-loop-window l = record {
  each : length l.touched.items ≡ l.window;
  rows : (w : ℕ) → w < l.window → AreTouched l.graph (window_at l.plan.plan w).owned l.ops
      (slice_index_or l.touched.items w []);
}
