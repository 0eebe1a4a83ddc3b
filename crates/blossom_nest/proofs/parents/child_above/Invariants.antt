use Rattle.blossom_nest.proofs.Climbing.{IsOnTheWay}
use Rattle.blossom_nest.proofs.parents.child_above.Given as goal

abbrev pub invariant-loop : goal.invariant-loop
invariant-loop l = IsOnTheWay l.parent l.fn.vertex l.set l.here l.counter
