use Rattle.std.proofs.Common.{refl, sym, subst}
use Rattle.window_model.specs.Speculation.{Returned}
use Rattle.core_state.specs.States.{CoreTable, MayHappen}
use Rattle.window_core.specs.Cores.{IsAwaited}
use Rattle.window_core.proofs.Awaited.{may_return}
use Rattle.window_core.proofs.Equipped.{moved}
use Rattle.window_core.proofs.machine.Core.hold.Goals as goal

pub hold-requires-clause-may : goal.hold-requires-clause-may
hold-requires-clause-may c =
    may_return c.self.inside.state c.is_state.ensures c.args.ticket c.args.decoded
    (subst (λ (t : CoreTable). IsAwaited t c.args.ticket c.args.decoded) (sym c.self.view_is)
    c.requires) (record { least = c.is_least.ensures.least; kept = c.is_least.ensures.kept })

pub invariant_of-self : goal.invariant_of-self
invariant_of-self c =
    (moved _ _ _ _ _ _ _ c.self.view_is c.self.invariant
    (may_return c.self.inside.state c.is_state.ensures c.args.ticket c.args.decoded
    (subst (λ (t : CoreTable). IsAwaited t c.args.ticket c.args.decoded) (sym c.self.view_is)
    c.requires) (record { least = c.is_least.ensures.least; kept = c.is_least.ensures.kept })) refl
    (λ w. refl) c.hold.ensures).0

pub returns-clause-may : goal.returns-clause-may
returns-clause-may c =
    subst (λ (t : CoreTable). MayHappen t (Returned c.args.ticket c.args.decoded.set))
    c.self.view_is
    (may_return c.self.inside.state c.is_state.ensures c.args.ticket c.args.decoded
    (subst (λ (t : CoreTable). IsAwaited t c.args.ticket c.args.decoded) (sym c.self.view_is)
    c.requires) (record { least = c.is_least.ensures.least; kept = c.is_least.ensures.kept }))
