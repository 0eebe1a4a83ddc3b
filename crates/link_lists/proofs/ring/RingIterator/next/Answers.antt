use Rattle.std.proofs.Common.{◌≡◌, ◌∷◌, sym, ap, ◌∙◌, rules}
use Rattle.link_lists.specs.Lists.{after, left_from, list_at}
use Rattle.link_lists.proofs.Left.{after_stands, left_step, stands}
use Rattle.link_lists.proofs.ring.RingIterator.next.Goals as goal
use Rattle.link_lists.proofs.ring.RingIterator.next.Goals.{After-next-self-inside}

step : (c : After-next-self-inside) → c.args.self.now ≡ c.in_ok-node.node
    ∷ left_from c.next-self-inside.result (list_at c.self.inside.chains.now c.self.inside.list)
step c =
    let items = list_at c.self.inside.chains.now c.self.inside.list in
    let s = rw c.in_ok-node.was at c.self.invariant.0 in
    sym c.self.view_is ∙ ap (λ o. left_from o items) c.in_ok-node.was
    ∙ left_step c.in_ok-node.node items s.0 s.1
    ∙ ap (λ o. c.in_ok-node.node ∷ left_from o items) (sym c.next-self-inside.ensures)

pub invariant_of-self : goal.invariant_of-self
invariant_of-self c =
    let items = list_at c.self.inside.chains.now c.self.inside.list in
    let s = rw c.in_ok-node.was at c.self.invariant.0 in (
      rw c.next-self-inside.ensures (stands (after c.in_ok-node.node items) items s.0
          (after_stands c.in_ok-node.node items)),
      c.self.invariant.1,
    )

pub returns-clause-steps : goal.returns-clause-steps
returns-clause-steps c = step (goal.at.returns-clause-steps c).After-next-self-inside

pub returns-clause-goes : goal.returns-clause-goes
returns-clause-goes c = let e = step (goal.at.returns-clause-goes c).After-next-self-inside in
    search rules
