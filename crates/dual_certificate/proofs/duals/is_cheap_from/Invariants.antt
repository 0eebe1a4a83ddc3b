use Rattle.std.proofs.Common.{ℕ, ◌<◌, ◌*◌, pos, ◌≤ℤ◌}
use Rattle.matching_model.specs.Certificates.{pair_sum}
use Rattle.dist_search.specs.Tables.{dist_of}
use Rattle.dual_certificate.proofs.duals.is_cheap_from.Given as goal

abbrev pub invariant-loop-j : goal.invariant-loop-j
invariant-loop-j l = (j : ℕ) → l.i < j → j < l.j →
    pair_sum l.cert l.i j ≤ℤ pos (2 * dist_of l.table l.i j)
