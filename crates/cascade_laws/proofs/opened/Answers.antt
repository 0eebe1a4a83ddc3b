use Rattle.cascade_laws.proofs.Laws.{opened_law}
use Rattle.cascade_laws.proofs.opened.Goals as goal

pub returns : goal.returns
returns c = opened_law
