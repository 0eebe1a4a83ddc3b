use Rattle.std.proofs.Common.{◌≡◌, ◌≤◌}
use Rattle.std.specs.List.{range_with_len}
use Rattle.std.specs.Vec.{vec_capacity}
use Rattle.blossom_nest.proofs.parents.counted.Given as goal

abbrev pub invariant-loop-number : goal.invariant-loop-number
invariant-loop-number l = record {
  items : l.numbers.items ≡ range_with_len 0 l.number;
  room : l.fn.count ≤ vec_capacity l.numbers;
}
