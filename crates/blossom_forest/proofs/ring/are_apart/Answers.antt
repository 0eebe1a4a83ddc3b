use Rattle.std.proofs.Common.{◌+◌, get_or, arith}
use Rattle.blossom_forest.proofs.Sets.{apart_end, lacks_cut, one_more_apart}
use Rattle.blossom_forest.proofs.ring.are_apart.Goals as goal

pub loop-at-preserved : goal.loop-at-preserved
loop-at-preserved c =
    let sets = c.args.sets.now in
    let at = c.loop-at.at in
    λ h. c.loop-at.invariant (one_more_apart sets at (omega arith)
    (lacks_cut (get_or sets at 0) sets (at + 1) (c.lacks.ensures c.if-not-lacks.false)) h)

pub returns : goal.returns
returns c = λ _. c.loop-at.invariant (apart_end c.args.sets.now c.loop-at.at (omega arith))
