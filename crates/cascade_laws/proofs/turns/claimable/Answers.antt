use Rattle.cascade_laws.proofs.Claiming.{claim_law}
use Rattle.cascade_laws.proofs.turns.claimable.Goals as goal

pub returns : goal.returns
returns c = claim_law
