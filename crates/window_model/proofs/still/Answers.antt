use Rattle.window_model.proofs.Tickets.{still_law}
use Rattle.window_model.proofs.still.Goals as goal

pub returns : goal.returns
returns c = still_law
