use Rattle.window_model.proofs.Tickets.{result_law}
use Rattle.window_model.proofs.solved.Goals as goal

pub returns : goal.returns
returns c = result_law
