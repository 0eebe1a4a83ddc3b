use Rattle.std.proofs.Common.{ℕ, ◌<◌, ◌*◌, pos, ◌≤ℤ◌, length}
use Rattle.matching_model.specs.Certificates.{pair_sum}
use Rattle.dist_search.specs.Tables.{dist_of}
use Rattle.dual_certificate.proofs.duals.are_cheap.Given as goal

abbrev pub invariant-loop-member : goal.invariant-loop-member
invariant-loop-member l = (i j : ℕ) → i < l.member → i < j → j < length l.table.members →
    pair_sum l.cert i j ≤ℤ pos (2 * dist_of l.table i j)
