use Rattle.forest_laws.proofs.Keeping.{forest_grown_law}
use Rattle.forest_laws.proofs.grown.Goals as goal

pub returns : goal.returns
returns c = forest_grown_law
