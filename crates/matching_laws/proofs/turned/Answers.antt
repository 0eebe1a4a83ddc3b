use Rattle.matching_laws.proofs.Uncut.{turn_law}
use Rattle.matching_laws.proofs.turned.Goals as goal

pub returns : goal.returns
returns c = turn_law
