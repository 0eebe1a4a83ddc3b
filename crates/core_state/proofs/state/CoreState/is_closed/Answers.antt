use Rattle.std.proofs.Common.{◌≡◌, ◌<◌, sym, ◌∙◌, subst}
use Rattle.core_state.specs.States.{CoreTable, machine_of}
use Rattle.core_state.proofs.Ticketed.{has_place}
use Rattle.core_state.proofs.state.CoreState.is_closed.Goals as goal

pub is_closed-requires : goal.is_closed-requires
is_closed-requires c =
    has_place _ c.self.invariant c.args.ticket
    (subst (λ (t : CoreTable). c.args.ticket < (machine_of t).tickets) (sym c.self.view_is)
    c.requires)

pub returns : goal.returns
returns c =
    subst (λ (t : CoreTable). c.is_closed.result ≡ ((machine_of t).claim c.args.ticket).closed)
    c.self.view_is
    (c.is_closed.ensures ∙ c.self.invariant.tickets.closed c.args.ticket
    (subst (λ (t : CoreTable). c.args.ticket < (machine_of t).tickets) (sym c.self.view_is)
    c.requires))
