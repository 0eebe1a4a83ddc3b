use Rattle.std.proofs.Common.{◌≡◌, ◌<◌, All, length}
use Rattle.matching_core.proofs.slacks.numbers_below.Given as goal

abbrev pub invariant-loop-number : goal.invariant-loop-number
invariant-loop-number l = record {
  len : length l.numbers.items ≡ l.number;
  low : All (λ x. x < l.end) l.numbers.items;
}
