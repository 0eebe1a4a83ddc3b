use Rattle.std.proofs.Common.{◌<◌, ◌≤◌, ℕ, IsSome}
use Rattle.window_model.specs.Decoder.{operation_at}
use Rattle.window_table.specs.Readings.{told_at}
use Rattle.window_table.proofs.reader.Reader.are_told.Given as goal

-- the bits of the operations so far were told, if they are of these slots
abbrev pub invariant-loop-op : goal.invariant-loop-op
invariant-loop-op g l =
    (o : ℕ) → o < l.op → (operation_at l.setting o).slot ≤ l.slot → IsSome (told_at l.self o)
