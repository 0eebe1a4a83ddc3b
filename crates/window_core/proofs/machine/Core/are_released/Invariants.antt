use Rattle.std.proofs.Common.{◌<◌, ◌≤◌, ℕ, IsSome}
use Rattle.window_model.specs.Decoder.{operation_at}
use Rattle.core_state.specs.States.{machine_of}
use Rattle.window_core.proofs.machine.Core.are_released.Given as goal

-- the operations so far are released, if they are of these slots
abbrev pub invariant-loop-op : goal.invariant-loop-op
invariant-loop-op l =
    (o : ℕ) → o < l.op → (operation_at l.self.task o).slot ≤ l.slot →
    IsSome ((machine_of l.self).released o)
