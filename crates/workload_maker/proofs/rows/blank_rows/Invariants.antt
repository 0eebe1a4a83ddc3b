use Rattle.std.proofs.Common.{◌≡◌, map, take}
use Rattle.workload_maker.specs.Turns.{blank_row}
use Rattle.workload_maker.proofs.rows.blank_rows.Given as goal

abbrev pub invariant-loop-slot : goal.invariant-loop-slot
invariant-loop-slot l = l.rows.items ≡ map blank_row (take l.slot l.measured.lines)
