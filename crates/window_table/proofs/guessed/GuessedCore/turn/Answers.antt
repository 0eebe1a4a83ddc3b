use Rattle.std.proofs.Common.{subst}
use Rattle.core_state.specs.States.{CoreTable}
use Rattle.window_core.specs.Turned.{IsTurned}
use Rattle.window_table.proofs.Guesses.{turned}
use Rattle.window_table.proofs.guessed.GuessedCore.turn.Goals as goal

pub invariant_of-self : goal.invariant_of-self
invariant_of-self g c =
    turned g.Z.NamesSetting.may_guess g.Z.NamesSetting.setting g.Z.NamesSetting.retries
    c.self.inside.core c.turn.new.self c.turn.result c.turn.ensures c.self.invariant

pub returns : goal.returns
returns g c =
    subst (λ (t : CoreTable). IsTurned g.Z.NamesSetting.may_guess t c.turn.new.self c.turn.result)
    c.self.view_is c.turn.ensures
