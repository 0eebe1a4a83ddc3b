use Rattle.core_journal.proofs.Events.{brought_law}
use Rattle.core_journal.proofs.laws.brought.Goals as goal

pub returns : goal.returns
returns c = brought_law
