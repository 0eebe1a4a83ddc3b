use Rattle.std.proofs.Common.{refl}
use Rattle.window_model.specs.Speculation.{Dropped}
use Rattle.window_core.proofs.Equipped.{next_is, turned}
use Rattle.window_core.proofs.machine.Core.give_up.Goals as goal

pub give_up-requires : goal.give_up-requires
give_up-requires c = (next_is _ _ (Dropped c.args.window) c.self.view_is c.requires).may

pub invariant_of-self : goal.invariant_of-self
invariant_of-self c =
    (turned _ _ _ _ _ _ _ c.self.view_is c.self.invariant c.requires (λ w. refl)
    c.give_up.ensures).0

pub returns : goal.returns
returns c =
    (turned _ _ _ _ _ _ _ c.self.view_is c.self.invariant c.requires (λ w. refl)
    c.give_up.ensures).1
