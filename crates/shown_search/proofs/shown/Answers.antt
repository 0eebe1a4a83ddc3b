use Rattle.shown_search.proofs.Fresh.{fresh_law}
use Rattle.shown_search.proofs.shown.Goals as goal

pub returns : goal.returns
returns c = fresh_law
