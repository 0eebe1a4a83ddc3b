use Rattle.matching_ends.proofs.Mating.{mate_law}
use Rattle.matching_ends.proofs.mated.Goals as goal

pub returns : goal.returns
returns c = mate_law
