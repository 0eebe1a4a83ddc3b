use Rattle.std.proofs.Common.{◌≡◌, ◌<◌, sym, subst}
use Rattle.core_state.specs.States.{CoreTable, machine_of}
use Rattle.core_state.proofs.Ticketed.{taken_claims, window_of}
use Rattle.core_state.proofs.state.CoreState.window_of.Goals as goal

pub window-requires : goal.window-requires
window-requires c =
    taken_claims _ c.self.invariant c.args.ticket
    (subst (λ (t : CoreTable). c.args.ticket < (machine_of t).tickets) (sym c.self.view_is)
    c.requires)

pub returns : goal.returns
returns c =
    subst (λ (t : CoreTable). c.window.result ≡ ((machine_of t).claim c.args.ticket).window)
    c.self.view_is
    (window_of _ c.self.invariant c.args.ticket c.window.result
    (subst (λ (t : CoreTable). c.args.ticket < (machine_of t).tickets) (sym c.self.view_is)
    c.requires) c.window.ensures)
