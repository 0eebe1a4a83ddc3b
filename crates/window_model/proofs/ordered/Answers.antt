use Rattle.window_model.proofs.FirstTurns.{ordered_law}
use Rattle.window_model.proofs.ordered.Goals as goal

pub returns : goal.returns
returns c = ordered_law
