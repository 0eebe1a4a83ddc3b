use Rattle.std.proofs.Common.{◌≡◌}
use Rattle.matching_core.proofs.slacks.Slacks.enter.Given as goal

abbrev pub invariant-loop-at : goal.invariant-loop-at
invariant-loop-at l = l.self ≡ l.fn.self
