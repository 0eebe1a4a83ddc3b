use Rattle.std.proofs.Common.{◌<◌, ℕ, IsSome}
use Rattle.window_model.specs.Speculation.{done}
use Rattle.core_state.specs.States.{machine_of}
use Rattle.window_core.proofs.machine.Core.all_committed.Given as goal

-- the windows so far are committed
abbrev pub invariant-loop-window : goal.invariant-loop-window
invariant-loop-window l =
    (w : ℕ) → w < l.window → IsSome (done ((machine_of l.self).phase w))
