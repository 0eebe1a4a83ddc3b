use Rattle.shown_rings.proofs.OneSet.{shrunk_law}
use Rattle.shown_rings.proofs.shrunk.Goals as goal

pub returns : goal.returns
returns c = shrunk_law
