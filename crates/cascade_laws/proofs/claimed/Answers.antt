use Rattle.cascade_laws.proofs.Laws.{claimed_law}
use Rattle.cascade_laws.proofs.claimed.Goals as goal

pub returns : goal.returns
returns c = claimed_law
