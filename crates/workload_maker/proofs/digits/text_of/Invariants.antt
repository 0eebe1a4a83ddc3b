use Rattle.std.proofs.Common.{◌≡◌, ◌++◌, take}
use Rattle.workload_maker.specs.Digits.{rows_text}
use Rattle.workload_maker.proofs.digits.text_of.Given as goal

abbrev pub invariant-loop-row : goal.invariant-loop-row
invariant-loop-row l = l.text.items ≡ l.header ++ rows_text (take l.row-index l.rows)
