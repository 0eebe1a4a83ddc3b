use Rattle.std.specs.Prelude.{MatchOption}
use Rattle.matching_core.specs.Searches.{IsPossible}
use Rattle.matching_core.proofs.over.least_expand.Given as goal

abbrev pub invariant-loop-place : goal.invariant-loop-place
invariant-loop-place l =
    MatchOption l.best (Unit {0}) (λ chosen. IsPossible l.over.nest.now chosen.step)
