use Rattle.claim_bits.proofs.Answering.{kept_law}
use Rattle.claim_bits.proofs.laws.kept.Goals as goal

pub returns : goal.returns
returns c = kept_law
