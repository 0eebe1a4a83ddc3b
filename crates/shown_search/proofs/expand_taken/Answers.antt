use Rattle.shown_search.proofs.Taking.{expand_taken}
use Rattle.shown_search.proofs.expand_taken.Goals as goal

pub returns : goal.returns
returns c = expand_taken
