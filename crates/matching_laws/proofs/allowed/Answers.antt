use Rattle.matching_laws.proofs.Uncut.{uncut_law}
use Rattle.matching_laws.proofs.allowed.Goals as goal

pub returns : goal.returns
returns c = uncut_law
