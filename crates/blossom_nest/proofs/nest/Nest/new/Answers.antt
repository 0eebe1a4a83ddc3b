use Rattle.blossom_nest.proofs.Starting.{started}
use Rattle.blossom_nest.proofs.nest.Nest.new.Goals as goal

pub invariant_of-result : goal.invariant_of-result
invariant_of-result c = started c.args.vertices _ _ _ _ _ c.requires c.in_ok-children.ensures
    c.in_ok-parent.ensures c.in_ok-top.ensures.items c.in_ok-unused.ensures.items
    c.are_disjoint.ensures c.in_ok-unused.ensures.room
