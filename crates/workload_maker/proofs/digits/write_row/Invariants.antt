use Rattle.std.proofs.Common.{◌≡◌, ◌++◌, map, take}
use Rattle.workload_maker.specs.Digits.{digit}
use Rattle.workload_maker.proofs.digits.write_row.Given as goal

abbrev pub invariant-loop-at : goal.invariant-loop-at
invariant-loop-at l = l.text.items ≡ l.initial.text.items ++ map digit (take l.at l.row)
