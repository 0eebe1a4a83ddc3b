use Rattle.cascade_laws.proofs.Storing.{stored_claim_law}
use Rattle.cascade_laws.proofs.stored.stored_claim.Goals as goal

pub returns : goal.returns
returns c = stored_claim_law
