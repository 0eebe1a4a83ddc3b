use Rattle.std.proofs.Common.{◌≡◌}
use Rattle.matching_core.proofs.slacks.Slacks.open.Given as goal

abbrev pub invariant-loop-vertex : goal.invariant-loop-vertex
invariant-loop-vertex l = l.self ≡ l.fn.self
