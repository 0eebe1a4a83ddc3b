use Rattle.window_table.proofs.Guesses.{arrived}
use Rattle.window_table.proofs.guessed.GuessedCore.arrive.Goals as goal

pub invariant_of-self : goal.invariant_of-self
invariant_of-self g c =
    arrived g.Z.NamesSetting.may_guess g.Z.NamesSetting.setting g.Z.NamesSetting.retries
    c.self.inside.core c.arrive.new.self c.args.folded.now.slot c.args.folded.now.defects
    c.args.folded.now.raws c.arrive.ensures c.self.invariant
