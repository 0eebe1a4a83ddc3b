use Rattle.std.proofs.Common.{refl}
use Rattle.blossom_nest.proofs.Climbing.{arrived, begin, step, within}
use Rattle.blossom_nest.proofs.parents.child_above.Goals as goal

pub loop-init : goal.loop-init
loop-init c = begin _ _ _ c.requires

pub bounds-parent-here : goal.bounds-parent-here
bounds-parent-here c = within _ _ _ _ _ c.loop.invariant

pub returns-then-above-set : goal.returns-then-above-set
returns-then-above-set c = arrived _ _ _ _ _ c.loop.invariant c.if-above-set.true

pub loop-preserved : goal.loop-preserved
loop-preserved c = step _ _ _ _ _ c.loop.invariant _ refl c.if-above-set.false
