use Rattle.std.proofs.Common.{◌≡◌, ◌*◌, ◌^◌, List, ℕ, take, pos, neg_ℤ, ◌≤ℤ◌}
use Rattle.std.specs.Prelude.{ℤ}
use Rattle.matching_model.specs.Sums.{int_sum_by}
use Rattle.dual_certificate.proofs.check.set_sum.Given as goal

abbrev pub invariant-loop-at : goal.invariant-loop-at
invariant-loop-at l = record {
  so_far : l.total ≡ int_sum_by (λ (s : List ℕ × ℤ). s.1) (take l.at l.cert.sets);
  low : neg_ℤ (pos (2 ^ 63 * l.at)) ≤ℤ l.total;
  high : l.total ≤ℤ pos (2 ^ 63 * l.at);
}
