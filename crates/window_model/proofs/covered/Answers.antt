use Rattle.window_model.proofs.Tickets.{covered_law}
use Rattle.window_model.proofs.covered.Goals as goal

pub returns : goal.returns
returns c = covered_law
