use Rattle.std.proofs.Common.{◌≢◌, ◌<◌, ℕ}
use Rattle.window_model.specs.Speculation.{Running}
use Rattle.core_state.specs.States.{machine_of}
use Rattle.window_core.proofs.quiet.runs.Given as goal

-- the windows so far run nothing
abbrev pub invariant-loop-window : goal.invariant-loop-window
invariant-loop-window l =
    (w : ℕ) → w < l.window → (k : ℕ) → (machine_of l.state).phase w ≢ Running k
