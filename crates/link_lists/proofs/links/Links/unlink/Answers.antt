use Rattle.link_lists.specs.Lists.{without}
use Rattle.link_lists.proofs.Singles.{in_range, singles, view_is}
use Rattle.link_lists.proofs.links.Links.unlink.Goals as goal

pub invariant_of-self : goal.invariant_of-self
invariant_of-self c =
    let low = in_range _ _ c.args.list _ c.self.view_is c.requires.list in
    singles _ _ c.args.list _ _ _ c.self.invariant low c.index_mut-one.ensures.value
    c.unlink.ensures c.are_disjoint.ensures.orderly

pub returns : goal.returns
returns c =
    let low = in_range _ _ c.args.list _ c.self.view_is c.requires.list in
    view_is _ _ c.args.list _ _ _ (without c.args.node) c.self.invariant low
    c.index_mut-one.ensures.value c.unlink.ensures c.self.view_is
