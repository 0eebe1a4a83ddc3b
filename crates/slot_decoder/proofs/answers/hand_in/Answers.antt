use Rattle.slot_decoder.proofs.Settling.{handed_in}
use Rattle.slot_decoder.proofs.answers.hand_in.Goals as goal

pub returns-clause-answered : goal.returns-clause-answered
returns-clause-answered c =
    (handed_in _ _ _ _ c.requires.open c.requires.problem c.report.ensures).0

pub returns-clause-closed : goal.returns-clause-closed
returns-clause-closed c =
    (handed_in _ _ _ _ c.requires.open c.requires.problem c.report.ensures).1
