use Rattle.cascade_laws.proofs.FirstTurns.{first_drop_law}
use Rattle.cascade_laws.proofs.turns.first_drop.Goals as goal

pub returns : goal.returns
returns c = first_drop_law
