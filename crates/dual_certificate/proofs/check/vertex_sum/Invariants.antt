use Rattle.std.proofs.Common.{◌≡◌, ◌*◌, ◌^◌, take, pos, neg_ℤ, ◌≤ℤ◌}
use Rattle.matching_model.specs.Sums.{int_sum_by}
use Rattle.dual_certificate.proofs.check.vertex_sum.Given as goal

abbrev pub invariant-loop-number : goal.invariant-loop-number
invariant-loop-number l = record {
  so_far : l.total ≡ int_sum_by (λ z. z) (take l.number-index l.numbers.items);
  low : neg_ℤ (pos (2 ^ 63 * l.number-index)) ≤ℤ l.total;
  high : l.total ≤ℤ pos (2 ^ 63 * l.number-index);
}
