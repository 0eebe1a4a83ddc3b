use Rattle.shown_search.proofs.Choosing.{least_law}
use Rattle.shown_search.proofs.chosen.Goals as goal

pub returns : goal.returns
returns c = least_law
