use Rattle.shown_search.proofs.Taking.{shrink_taken}
use Rattle.shown_search.proofs.shrink_taken.Goals as goal

pub returns : goal.returns
returns c = shrink_taken
