use Rattle.std.proofs.Common.{subst}
use Rattle.core_state.specs.States.{CoreTable}
use Rattle.window_core.specs.Turned.{IsReported}
use Rattle.window_table.proofs.Guesses.{answered}
use Rattle.window_table.proofs.guessed.GuessedCore.report.Goals as goal

pub invariant_of-self : goal.invariant_of-self
invariant_of-self g c =
    answered g.Z.NamesSetting.may_guess g.Z.NamesSetting.setting g.Z.NamesSetting.retries
    c.self.inside.core c.report.new.self c.args.finished c.report.result c.report.ensures
    c.self.invariant

pub returns : goal.returns
returns g c =
    subst (λ (t : CoreTable). IsReported t c.report.new.self c.args.finished c.report.result)
    c.self.view_is c.report.ensures
