use Rattle.std.proofs.Common.{refl}
use Rattle.window_model.specs.Speculation.{Verified}
use Rattle.window_core.proofs.Equipped.{next_is, turned}
use Rattle.window_core.proofs.machine.Core.verify.Goals as goal

pub verify-requires : goal.verify-requires
verify-requires c =
    (next_is _ _ (Verified c.args.source c.args.window) c.self.view_is c.requires).may

pub invariant_of-self : goal.invariant_of-self
invariant_of-self c =
    (turned _ _ _ _ _ _ _ c.self.view_is c.self.invariant c.requires (λ w. refl)
    c.verify.ensures).0

pub returns : goal.returns
returns c =
    (turned _ _ _ _ _ _ _ c.self.view_is c.self.invariant c.requires (λ w. refl)
    c.verify.ensures).1
