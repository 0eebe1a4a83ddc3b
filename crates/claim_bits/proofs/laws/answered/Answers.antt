use Rattle.claim_bits.proofs.Answering.{answer_law}
use Rattle.claim_bits.proofs.laws.answered.Goals as goal

pub returns : goal.returns
returns c = answer_law
