use Rattle.core_journal.proofs.Events.{held_law}
use Rattle.core_journal.proofs.laws.held.Goals as goal

pub returns : goal.returns
returns c = held_law
