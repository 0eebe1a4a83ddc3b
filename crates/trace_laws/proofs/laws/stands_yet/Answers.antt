use Rattle.trace_laws.proofs.Standing.{standing_law}
use Rattle.trace_laws.proofs.laws.stands_yet.Goals as goal

pub returns : goal.returns
returns c = standing_law
