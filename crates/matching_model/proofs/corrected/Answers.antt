use Rattle.matching_model.proofs.Pairings.{pairing_law}
use Rattle.matching_model.proofs.corrected.Goals as goal

pub returns : goal.returns
returns c = pairing_law
