use Rattle.std.proofs.Common.{◌<◌}
use Rattle.matching_core.proofs.slacks.Slacks.refresh.Given as goal

abbrev pub invariant-loop-other : goal.invariant-loop-other
invariant-loop-other l = l.near < l.fn.self
