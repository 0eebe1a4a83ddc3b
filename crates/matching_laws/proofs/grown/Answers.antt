use Rattle.matching_laws.proofs.Hanging.{grow_law}
use Rattle.matching_laws.proofs.grown.Goals as goal

pub returns : goal.returns
returns c = grow_law
