use Rattle.core_journal.proofs.Events.{claimed_law}
use Rattle.core_journal.proofs.laws.claimed.Goals as goal

pub returns : goal.returns
returns c = claimed_law
