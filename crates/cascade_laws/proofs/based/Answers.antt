use Rattle.cascade_laws.proofs.Committed.{based_law}
use Rattle.cascade_laws.proofs.based.Goals as goal

pub returns : goal.returns
returns c = based_law
