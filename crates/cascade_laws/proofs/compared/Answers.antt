use Rattle.cascade_laws.proofs.Laws.{compared_law}
use Rattle.cascade_laws.proofs.compared.Goals as goal

pub returns : goal.returns
returns c = compared_law
