use Rattle.std.proofs.Common.{◌≡◌, sym, subst}
use Rattle.core_state.specs.States.{CoreTable, machine_of}
use Rattle.core_state.proofs.state.CoreState.arrived.Goals as goal

pub returns : goal.returns
returns c = subst (λ (t : CoreTable). c.self.inside.arrived ≡ (machine_of t).arrived) c.self.view_is
    (sym c.self.invariant.arrived)
