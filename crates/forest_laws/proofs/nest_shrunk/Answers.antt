use Rattle.forest_laws.proofs.Closing.{nest_shrunk_law}
use Rattle.forest_laws.proofs.nest_shrunk.Goals as goal

pub returns : goal.returns
returns c = nest_shrunk_law
