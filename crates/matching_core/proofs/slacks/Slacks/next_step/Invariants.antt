use Rattle.std.proofs.Common.{◌≡◌}
use Rattle.std.specs.Prelude.{MatchOption}
use Rattle.matching_core.specs.Searches.{IsPossible}
use Rattle.matching_core.proofs.slacks.Slacks.next_step.Given as goal

abbrev pub invariant-loop-turn : goal.invariant-loop-turn
invariant-loop-turn l = record {
  same : l.self ≡ l.fn.self;
  possible : MatchOption l.best (Unit {0}) (λ chosen. IsPossible l.over.nest.now chosen.step);
}
