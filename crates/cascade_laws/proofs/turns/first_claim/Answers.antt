use Rattle.cascade_laws.proofs.Claiming.{first_claim_law}
use Rattle.cascade_laws.proofs.turns.first_claim.Goals as goal

pub returns : goal.returns
returns c = first_claim_law
