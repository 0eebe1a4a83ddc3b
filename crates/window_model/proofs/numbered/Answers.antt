use Rattle.window_model.proofs.Tickets.{ticket_law}
use Rattle.window_model.proofs.numbered.Goals as goal

pub returns : goal.returns
returns c = ticket_law
