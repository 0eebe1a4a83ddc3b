use Rattle.cascade_laws.proofs.Laws.{returned_law}
use Rattle.cascade_laws.proofs.returned.Goals as goal

pub returns : goal.returns
returns c = returned_law
