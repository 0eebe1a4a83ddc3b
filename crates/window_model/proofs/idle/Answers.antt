use Rattle.window_model.proofs.FirstTurns.{idle_law}
use Rattle.window_model.proofs.idle.Goals as goal

pub returns : goal.returns
returns c = idle_law
