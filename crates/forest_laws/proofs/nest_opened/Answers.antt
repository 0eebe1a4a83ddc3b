use Rattle.forest_laws.proofs.Parting.{nest_opened_law}
use Rattle.forest_laws.proofs.nest_opened.Goals as goal

pub returns : goal.returns
returns c = nest_opened_law
