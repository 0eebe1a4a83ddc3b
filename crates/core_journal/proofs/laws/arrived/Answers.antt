use Rattle.core_journal.proofs.Events.{arrived_law}
use Rattle.core_journal.proofs.laws.arrived.Goals as goal

pub returns : goal.returns
returns c = arrived_law
