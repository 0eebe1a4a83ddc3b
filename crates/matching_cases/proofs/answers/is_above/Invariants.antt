use Rattle.std.proofs.Common.{ℕ, ◌<◌, get_or}
use Rattle.matching_cases.proofs.answers.is_above.Given as goal

abbrev pub invariant-loop-other : goal.invariant-loop-other
invariant-loop-other l = (k d : ℕ) → k < l.other-index → get_or l.other-items k d < l.edge
