use Rattle.std.proofs.Common.{All, take}
use Rattle.certified_lines.specs.Certified.{IsNumber}
use Rattle.certified_log.proofs.short.are_numbers.Given as goal

abbrev pub invariant-loop-number : goal.invariant-loop-number
invariant-loop-number l = All IsNumber (take l.number-index l.numbers)
