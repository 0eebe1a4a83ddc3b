use Rattle.shown_search.proofs.Taking.{augment_taken}
use Rattle.shown_search.proofs.augment_taken.Goals as goal

pub returns : goal.returns
returns c = augment_taken
