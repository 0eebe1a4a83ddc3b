use Rattle.cascade_laws.proofs.Laws.{left_law}
use Rattle.cascade_laws.proofs.left.Goals as goal

pub returns : goal.returns
returns c = left_law
