use Rattle.shown_search.proofs.Taking.{grow_taken}
use Rattle.shown_search.proofs.grow_taken.Goals as goal

pub returns : goal.returns
returns c = grow_taken
