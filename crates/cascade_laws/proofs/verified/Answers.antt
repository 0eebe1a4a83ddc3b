use Rattle.cascade_laws.proofs.Laws.{verified_law}
use Rattle.cascade_laws.proofs.verified.Goals as goal

pub returns : goal.returns
returns c = verified_law
