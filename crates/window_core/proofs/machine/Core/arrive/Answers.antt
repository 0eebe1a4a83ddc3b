use Rattle.std.proofs.Common.{refl, sym, subst}
use Rattle.window_model.specs.Speculation.{Arrived}
use Rattle.core_state.specs.States.{CoreTable, MayHappen}
use Rattle.window_core.proofs.Equipped.{moved}
use Rattle.window_core.proofs.machine.Core.arrive.Goals as goal

pub invariant_of-self : goal.invariant_of-self
invariant_of-self c =
    (moved _ _ _ _ _ _ _ c.self.view_is c.self.invariant
    (subst (λ (t : CoreTable). MayHappen t (Arrived c.args.folded.now.slot
    c.args.folded.now.defects c.args.folded.now.raws)) (sym c.self.view_is) c.requires) refl
    (λ w. refl) c.arrive.ensures).0
