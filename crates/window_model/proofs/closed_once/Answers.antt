use Rattle.window_model.proofs.Tickets.{closed_law}
use Rattle.window_model.proofs.closed_once.Goals as goal

pub returns : goal.returns
returns c = closed_law
