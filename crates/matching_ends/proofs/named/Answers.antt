use Rattle.matching_ends.proofs.Naming.{names_law}
use Rattle.matching_ends.proofs.named.Goals as goal

pub returns : goal.returns
returns c = names_law
