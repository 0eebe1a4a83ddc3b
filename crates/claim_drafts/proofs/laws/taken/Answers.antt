use Rattle.claim_drafts.proofs.Left.{taken_law}
use Rattle.claim_drafts.proofs.laws.taken.Goals as goal

pub returns : goal.returns
returns c = taken_law
