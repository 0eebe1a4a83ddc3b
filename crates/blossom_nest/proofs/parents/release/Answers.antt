use Rattle.std.proofs.Common.{sym, arith}
use Rattle.blossom_nest.proofs.Releasing.{begin, low_child, step}
use Rattle.blossom_nest.proofs.parents.release.Goals as goal

pub loop-child-init : goal.loop-child-init
loop-child-init c = begin _ _ _ _ (λ v m. let low = c.are_disjoint.ensures.orderly.below
    c.args.place v m in omega (arith, low, c.requires.names))

pub index_mut-requires : goal.index_mut-requires
index_mut-requires c =
    let low = low_child _ _ _ _ _ _ c.requires.place c.loop-child.invariant c.in-Some.child
    (sym c.in-Some.ensures) in
    omega (arith, low, c.loop-child.parent.ok.0)

pub loop-child-preserved : goal.loop-child-preserved
loop-child-preserved c = step _ _ _ _ _ _ c.requires.place c.loop-child.invariant c.in-Some.child _
    (sym c.in-Some.ensures) c.unlink.ensures
