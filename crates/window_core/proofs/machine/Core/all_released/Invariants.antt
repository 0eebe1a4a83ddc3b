use Rattle.std.proofs.Common.{◌<◌, ℕ, IsSome}
use Rattle.core_state.specs.States.{machine_of}
use Rattle.window_core.proofs.machine.Core.all_released.Given as goal

-- the operations so far are released
abbrev pub invariant-loop-op : goal.invariant-loop-op
invariant-loop-op l = (o : ℕ) → o < l.op → IsSome ((machine_of l.self).released o)
