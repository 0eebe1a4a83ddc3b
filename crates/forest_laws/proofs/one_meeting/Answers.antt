use Rattle.forest_laws.proofs.Forks.{one_fork}
use Rattle.forest_laws.proofs.one_meeting.Goals as goal

pub returns : goal.returns
returns c = one_fork
