use Rattle.std.proofs.Common.{◌≡◌, ◌<◌, ℕ, [], false, length, map, slice_index_or}
use Rattle.window_model.specs.Windows.{all_below}
use Rattle.release_gate.proofs.needed.needed_windows.Given as goal

-- the operations so far
abbrev pub invariant-loop-at : goal.invariant-loop-at
invariant-loop-at l = record {
  each : length l.needs.items ≡ l.at;
  needed : (k : ℕ) → k < l.at → slice_index_or (map (λ v. v.items) l.needs.items) k [] ≡ all_below
      (length l.touched.items) (λ w. slice_index_or (slice_index_or l.touched.items w []) k false);
}
