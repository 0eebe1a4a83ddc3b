use Rattle.shown_search.proofs.Same.{same_law}
use Rattle.shown_search.proofs.unread.Goals as goal

pub returns : goal.returns
returns c = same_law
