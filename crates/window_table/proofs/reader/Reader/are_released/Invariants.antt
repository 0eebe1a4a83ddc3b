use Rattle.std.proofs.Common.{◌≡◌, ◌<◌, ℕ, Bool, Some}
use Rattle.core_state.specs.States.{machine_of}
use Rattle.window_table.specs.Readings.{told_at}
use Rattle.window_table.proofs.reader.Reader.are_released.Given as goal

-- the bits of the operations so far, where they were told, are those of releases
abbrev pub invariant-loop-op : goal.invariant-loop-op
invariant-loop-op g l =
    (o : ℕ) → o < l.op → (bit : Bool) → told_at l.self o ≡ Some bit →
    (machine_of l.core).released o ≡ Some bit
