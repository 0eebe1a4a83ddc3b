use Rattle.std.proofs.Common.{◌≡◌, ◌≤◌, ◌*◌, ◌^◌, ℕ, length, take, get_or}
use Rattle.dual_certificate.specs.Sums.{shared}
use Rattle.dual_certificate.proofs.sums.shared_with.Given as goal

abbrev pub invariant-loop-at : goal.invariant-loop-at
invariant-loop-at l = record {
  count_is : length l.sums.items ≡ l.count;
  each : (j : ℕ) → get_or l.sums.items j 0 ≡ shared (take l.at l.cert.sets) l.member j;
  low : (j : ℕ) → get_or l.sums.items j 0 ≤ 2 ^ 63 * l.at;
}
