use Rattle.std.proofs.Common.{◌≡◌, [], false, slice_index_or}
use Rattle.window_model.specs.Windows.{all_below}
use Rattle.release_gate.proofs.needed.windows_of.Given as goal

-- the windows so far
abbrev pub invariant-loop-window : goal.invariant-loop-window
invariant-loop-window l = l.windows.items
    ≡ all_below l.window (λ w. slice_index_or (slice_index_or l.touched w []) l.op false)
