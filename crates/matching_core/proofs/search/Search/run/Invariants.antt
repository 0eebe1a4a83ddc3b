use Rattle.std.proofs.Common.{◌≡◌}
use Rattle.matching_core.proofs.search.Search.run.Given as goal

abbrev pub invariant-loop-turn : goal.invariant-loop-turn
invariant-loop-turn l = l.self ≡ l.fn.self
