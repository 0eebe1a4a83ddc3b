use Rattle.std.proofs.Common.{ℕ, ◌<◌, get_or}
use Rattle.dual_certificate.proofs.sets.are_below.Given as goal

abbrev pub invariant-loop-member : goal.invariant-loop-member
invariant-loop-member l = (k d : ℕ) → k < l.member-index → get_or l.members k d < l.count
