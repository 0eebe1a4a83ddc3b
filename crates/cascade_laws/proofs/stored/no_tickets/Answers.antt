use Rattle.cascade_laws.proofs.Storing.{no_tickets_law}
use Rattle.cascade_laws.proofs.stored.no_tickets.Goals as goal

pub returns : goal.returns
returns c = no_tickets_law
