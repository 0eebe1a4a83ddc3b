use Rattle.cascade_laws.proofs.Storing.{stored_rest_law}
use Rattle.cascade_laws.proofs.stored.stored_rest.Goals as goal

pub returns : goal.returns
returns c = stored_rest_law
