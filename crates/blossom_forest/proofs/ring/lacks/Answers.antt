use Rattle.std.proofs.Common.{◌≢◌, arith}
use Rattle.blossom_forest.proofs.Sets.{all_end, one_more}
use Rattle.blossom_forest.proofs.ring.lacks.Goals as goal

pub loop-other-preserved : goal.loop-other-preserved
loop-other-preserved c = λ h. c.loop-other.invariant (one_more (λ y. y ≢ c.args.set) c.args.sets.now
    c.loop-other.other-index (omega arith) c.if-other-set.false h)

pub returns : goal.returns
returns c = λ _. c.loop-other.invariant (all_end (λ y. y ≢ c.args.set) c.args.sets.now
    c.loop-other.other-index (omega arith))
