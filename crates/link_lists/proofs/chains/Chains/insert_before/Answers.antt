use Rattle.std.proofs.Common.{arith}
use Rattle.link_lists.proofs.Writes.{around_seen, inserts}
use Rattle.link_lists.proofs.chains.Chains.insert_before.Goals as goal

pub link-requires-clause-place : goal.link-requires-clause-place
link-requires-clause-place c =
    let a = around_seen _ _ _ _ _ c.self.invariant c.args.list c.args.place _ c.self.view_is
    c.requires.list c.requires.present in
    omega (arith, a.low, c.self.invariant.prev_len)

pub link-requires-clause-before : goal.link-requires-clause-before
link-requires-clause-before c = (around_seen _ _ _ _ _ c.self.invariant c.args.list c.args.place _
    c.self.view_is c.requires.list c.requires.present).from

pub invariant_of-self : goal.invariant_of-self
invariant_of-self c =
    let left = inserts _ _ _ _ _ c.self.invariant c.args.list c.args.place c.args.node _
    c.self.view_is c.requires.list c.requires.node c.requires.free c.requires.present in
    rw (c.link.ensures.next, c.link.ensures.prev) left.chains

pub returns : goal.returns
returns c =
    let left = inserts _ _ _ _ _ c.self.invariant c.args.list c.args.place c.args.node _
    c.self.view_is c.requires.list c.requires.node c.requires.free c.requires.present in
    rw c.link.ensures.next left.view
