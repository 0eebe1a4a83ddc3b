use Rattle.forest_laws.proofs.Keeping.{started_law}
use Rattle.forest_laws.proofs.started.Goals as goal

pub returns : goal.returns
returns c = started_law
