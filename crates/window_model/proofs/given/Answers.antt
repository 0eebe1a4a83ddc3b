use Rattle.window_model.proofs.Tickets.{given_law}
use Rattle.window_model.proofs.given.Goals as goal

pub returns : goal.returns
returns c = given_law
