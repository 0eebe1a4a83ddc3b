use Rattle.std.proofs.Common.{arith}
use Rattle.link_lists.proofs.Writes.{end_bound, in_range, pushes}
use Rattle.link_lists.proofs.chains.Chains.push_back.Goals as goal

pub overflow_add-end : goal.overflow_add-end
overflow_add-end c =
    let lc = in_range _ _ _ _ _ c.self.invariant c.args.list _ c.self.view_is c.requires.list in
    omega (arith, lc, c.self.invariant.few_nodes, c.self.invariant.few_lists)

pub link-requires-clause-place : goal.link-requires-clause-place
link-requires-clause-place c =
    let lc = in_range _ _ _ _ _ c.self.invariant c.args.list _ c.self.view_is c.requires.list in
    omega (arith, lc, c.self.invariant.prev_len)

pub link-requires-clause-before : goal.link-requires-clause-before
link-requires-clause-before c = end_bound _ _ _ _ _ c.self.invariant c.args.list
    (in_range _ _ _ _ _ c.self.invariant c.args.list _ c.self.view_is c.requires.list)

pub invariant_of-self : goal.invariant_of-self
invariant_of-self c =
    let left = pushes _ _ _ _ _ c.self.invariant c.args.list c.args.node _ c.self.view_is
    c.requires.list c.requires.node c.requires.free in
    rw (c.link.ensures.next, c.link.ensures.prev) left.chains

pub returns : goal.returns
returns c =
    let left = pushes _ _ _ _ _ c.self.invariant c.args.list c.args.node _ c.self.view_is
    c.requires.list c.requires.node c.requires.free in
    rw c.link.ensures.next left.view
