use Rattle.std.proofs.Common.{◌≡◌, ◌<◌, ℕ, length}
use Rattle.link_lists.specs.Chains.{at}
use Rattle.link_lists.proofs.chains.counted.Given as goal

abbrev pub invariant-loop-number : goal.invariant-loop-number
invariant-loop-number l = record {
  len : length l.numbers.items ≡ l.number;
  each : (i : ℕ) → i < l.number → at l.numbers.items i ≡ i;
}
