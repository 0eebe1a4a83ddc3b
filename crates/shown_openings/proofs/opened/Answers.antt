use Rattle.shown_openings.proofs.Whole.{opened_law}
use Rattle.shown_openings.proofs.opened.Goals as goal

pub returns : goal.returns
returns c = opened_law
