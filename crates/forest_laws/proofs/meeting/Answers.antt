use Rattle.forest_laws.proofs.OneTree.{meeting_law}
use Rattle.forest_laws.proofs.meeting.Goals as goal

pub returns : goal.returns
returns c = meeting_law
