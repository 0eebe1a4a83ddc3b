use Rattle.matching_laws.proofs.Closing.{shrink_law}
use Rattle.matching_laws.proofs.shrunk.Goals as goal

pub returns : goal.returns
returns c = shrink_law
