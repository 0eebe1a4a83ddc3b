use Rattle.std.proofs.Common.{◌+◌, ◌∙◌, ap, arith}
use Rattle.link_lists.specs.Chains.{at, node_or_end}
use Rattle.link_lists.proofs.Writes.{around_seen, in_range, next_is}
use Rattle.link_lists.proofs.chains.Chains.next.Goals as goal

pub overflow_add-self-inside : goal.overflow_add-self-inside
overflow_add-self-inside c =
    let lc = in_range _ _ _ _ _ c.self.invariant c.args.list _ c.self.view_is c.requires.list in
    omega (arith, lc, c.self.invariant.few_nodes, c.self.invariant.few_lists)

pub node_at-requires : goal.node_at-requires
node_at-requires c =
    let a = around_seen _ _ _ _ _ c.self.invariant c.args.list c.args.node _ c.self.view_is
    c.requires.list c.requires.present in
    rw c.deref.ensures.value (omega (arith, a.low, c.self.invariant.next_len))

pub returns : goal.returns
returns c =
    let end = c.self.inside.nodes + c.args.list in
    c.node_at.ensures ∙ ap (λ ns. node_or_end (at ns c.args.node) end) c.deref.ensures.value
    ∙ next_is _ _ _ _ _ c.self.invariant c.args.list c.args.node _ c.self.view_is c.requires.list
    c.requires.present
