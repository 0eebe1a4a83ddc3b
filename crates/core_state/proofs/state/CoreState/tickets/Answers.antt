use Rattle.std.proofs.Common.{◌≡◌, ap, ◌∙◌, subst}
use Rattle.core_state.specs.States.{CoreTable, machine_of}
use Rattle.core_state.proofs.state.CoreState.tickets.Goals as goal

pub returns : goal.returns
returns c = subst (λ (t : CoreTable). c.tickets.result ≡ (machine_of t).tickets) c.self.view_is
    (c.tickets.ensures ∙ ap (λ b. b.tickets) c.book.ensures ∙ c.self.invariant.phases.book.numbered)
