use Rattle.std.proofs.Common.{◌≡◌, false, true, subst}
use Rattle.window_model.specs.Speculation.{Poisoned, Verified}
use Rattle.core_state.specs.States.{CoreTable, MayHappen}
use Rattle.window_core.proofs.machine.Core.is_right.Goals as goal

pub returns-clause-right : goal.returns-clause-right
returns-clause-right c =
    subst (λ (t : CoreTable). c.is_right.result ≡ true →
    MayHappen t (Verified c.args.source c.args.window)) c.self.view_is c.is_right.ensures.right

pub returns-clause-wrong : goal.returns-clause-wrong
returns-clause-wrong c =
    subst (λ (t : CoreTable). c.is_right.result ≡ false →
    MayHappen t (Poisoned c.args.source c.args.window)) c.self.view_is c.is_right.ensures.wrong
