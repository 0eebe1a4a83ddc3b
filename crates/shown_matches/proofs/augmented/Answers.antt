use Rattle.shown_matches.proofs.Matching.{augmented_law}
use Rattle.shown_matches.proofs.augmented.Goals as goal

pub returns : goal.returns
returns c = augmented_law
