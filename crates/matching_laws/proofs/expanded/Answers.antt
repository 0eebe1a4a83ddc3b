use Rattle.matching_laws.proofs.Opening.{expand_law}
use Rattle.matching_laws.proofs.expanded.Goals as goal

pub returns : goal.returns
returns c = expand_law
