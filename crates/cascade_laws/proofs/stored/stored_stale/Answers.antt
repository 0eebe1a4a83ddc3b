use Rattle.cascade_laws.proofs.Storing.{stored_stale_law}
use Rattle.cascade_laws.proofs.stored.stored_stale.Goals as goal

pub returns : goal.returns
returns c = stored_stale_law
