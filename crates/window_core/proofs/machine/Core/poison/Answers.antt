use Rattle.std.proofs.Common.{refl}
use Rattle.window_model.specs.Speculation.{Poisoned}
use Rattle.window_core.proofs.Equipped.{next_is, turned}
use Rattle.window_core.proofs.machine.Core.poison.Goals as goal

pub poison-requires : goal.poison-requires
poison-requires c =
    (next_is _ _ (Poisoned c.args.source c.args.window) c.self.view_is c.requires).may

pub invariant_of-self : goal.invariant_of-self
invariant_of-self c =
    (turned _ _ _ _ _ _ _ c.self.view_is c.self.invariant c.requires (λ w. refl)
    c.poison.ensures).0

pub returns : goal.returns
returns c =
    (turned _ _ _ _ _ _ _ c.self.view_is c.self.invariant c.requires (λ w. refl)
    c.poison.ensures).1
