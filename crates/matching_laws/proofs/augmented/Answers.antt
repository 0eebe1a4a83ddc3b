use Rattle.matching_laws.proofs.Turning.{augment_law}
use Rattle.matching_laws.proofs.augmented.Goals as goal

pub returns : goal.returns
returns c = augment_law
