use Rattle.cascade_laws.proofs.Storing.{stored_result_law}
use Rattle.cascade_laws.proofs.stored.stored_result.Goals as goal

pub returns : goal.returns
returns c = stored_result_law
