use Rattle.std.proofs.Common.{◌≡◌, ◌≤◌, ◌*◌, ◌^◌, ℕ, length, take, get_or}
use Rattle.dual_certificate.specs.Sums.{held}
use Rattle.dual_certificate.proofs.sums.held_by_each.Given as goal

abbrev pub invariant-loop-at : goal.invariant-loop-at
invariant-loop-at l = record {
  count_is : length l.sums.items ≡ l.count;
  each : (j : ℕ) → get_or l.sums.items j 0 ≡ held (take l.at l.cert.sets) j;
  low : (j : ℕ) → get_or l.sums.items j 0 ≤ 2 ^ 63 * l.at;
}
