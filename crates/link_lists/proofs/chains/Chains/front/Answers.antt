use Rattle.std.proofs.Common.{◌+◌, ◌∙◌, ap, arith}
use Rattle.link_lists.specs.Chains.{at, node_or_end}
use Rattle.link_lists.proofs.Writes.{front_is, in_range}
use Rattle.link_lists.proofs.chains.Chains.front.Goals as goal

pub overflow_add-end : goal.overflow_add-end
overflow_add-end c =
    let lc = in_range _ _ _ _ _ c.self.invariant c.args.list _ c.self.view_is c.requires in
    omega (arith, lc, c.self.invariant.few_nodes, c.self.invariant.few_lists)

pub node_at-requires : goal.node_at-requires
node_at-requires c =
    let lc = in_range _ _ _ _ _ c.self.invariant c.args.list _ c.self.view_is c.requires in
    rw c.deref.ensures.value (omega (arith, lc, c.self.invariant.next_len))

pub returns : goal.returns
returns c =
    let end = c.self.inside.nodes + c.args.list in
    c.node_at.ensures ∙ ap (λ ns. node_or_end (at ns end) end) c.deref.ensures.value
    ∙ front_is _ _ _ _ _ c.self.invariant c.args.list _ c.self.view_is c.requires
