use Rattle.shown_search.proofs.Growth.{grown_law}
use Rattle.shown_search.proofs.grown.Goals as goal

pub returns : goal.returns
returns c = grown_law
