use Rattle.std.proofs.Common.{arith}
use Rattle.link_lists.proofs.Writes.{around_seen, removes}
use Rattle.link_lists.proofs.chains.Chains.unlink.Goals as goal

pub cut-requires : goal.cut-requires
cut-requires c =
    let a = around_seen _ _ _ _ _ c.self.invariant c.args.list c.args.node _ c.self.view_is
    c.requires.list c.requires.present in
    record {
      node = (
        omega (arith, a.low, c.self.invariant.next_len),
        omega (arith, a.low, c.self.invariant.prev_len),
      );
      before = a.from;
      after = a.onto;
    }

pub index_mut-requires : goal.index_mut-requires
index_mut-requires c =
    let a = around_seen _ _ _ _ _ c.self.invariant c.args.list c.args.node _ c.self.view_is
    c.requires.list c.requires.present in
    omega (arith, a.low, c.self.invariant.home_len, c.self.inside.home.ok.0)

pub invariant_of-self : goal.invariant_of-self
invariant_of-self c =
    let left = removes _ _ _ _ _ c.self.invariant c.args.list c.args.node _ c.self.view_is
    c.requires.list c.requires.present in
    rw (c.cut.ensures.next, c.cut.ensures.prev) left.chains

pub returns : goal.returns
returns c =
    let left = removes _ _ _ _ _ c.self.invariant c.args.list c.args.node _ c.self.view_is
    c.requires.list c.requires.present in
    rw c.cut.ensures.next left.view
