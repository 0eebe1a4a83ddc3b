use Rattle.window_table.proofs.Guesses.{begun}
use Rattle.window_table.proofs.guessed.GuessedCore.new.Goals as goal

pub invariant_of-result : goal.invariant_of-result
invariant_of-result g c =
    begun g.Z.NamesSetting.may_guess g.Z.NamesSetting.setting g.Z.NamesSetting.retries
    c.args.core c.requires.empty c.requires.named c.requires.allowed
