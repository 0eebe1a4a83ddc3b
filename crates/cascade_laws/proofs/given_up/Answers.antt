use Rattle.cascade_laws.proofs.Laws.{given_up_law}
use Rattle.cascade_laws.proofs.given_up.Goals as goal

pub returns : goal.returns
returns c = given_up_law
