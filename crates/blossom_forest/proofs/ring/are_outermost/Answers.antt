use Rattle.std.proofs.Common.{arith}
use Rattle.blossom_nest.specs.Nests.{IsOutermost}
use Rattle.blossom_forest.proofs.Sets.{all_end, one_more}
use Rattle.blossom_forest.proofs.ring.are_outermost.Goals as goal

pub loop-set-preserved : goal.loop-set-preserved
loop-set-preserved c =
    λ h. c.loop-set.invariant (one_more (IsOutermost c.args.nest.now) c.args.sets.now
    c.loop-set.set-index (omega arith) (c.is_outermost.ensures.yes c.if-not-is_outermost.false) h)

pub returns : goal.returns
returns c = λ _. c.loop-set.invariant (all_end (IsOutermost c.args.nest.now) c.args.sets.now
    c.loop-set.set-index (omega arith))
