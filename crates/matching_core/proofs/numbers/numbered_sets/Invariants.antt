use Rattle.std.proofs.Common.{◌≡◌, length}
use Rattle.matching_core.proofs.numbers.numbered_sets.Given as goal

abbrev pub invariant-loop-number : goal.invariant-loop-number
invariant-loop-number l = length l.sets.items ≡ l.number-index
