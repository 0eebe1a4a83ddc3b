use Rattle.forest_laws.proofs.Ways.{climbed_law}
use Rattle.forest_laws.proofs.climbed.Goals as goal

pub returns : goal.returns
returns c = climbed_law
