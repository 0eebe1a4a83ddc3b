use Rattle.std.proofs.Common.{refl, sym, subst}
use Rattle.window_model.specs.Speculation.{MayBeStale}
use Rattle.core_state.specs.States.{CoreTable, machine_of}
use Rattle.window_core.proofs.Equipped.{moved}
use Rattle.window_core.proofs.machine.Core.find_stale.Goals as goal

pub invariant_of-self : goal.invariant_of-self
invariant_of-self c =
    (moved _ _ _ _ _ _ _ c.self.view_is c.self.invariant
    (subst (λ (t : CoreTable). MayBeStale (machine_of t) c.args.ticket) (sym c.self.view_is)
    c.requires) refl (λ w. refl) c.find_stale.ensures.happened).0
