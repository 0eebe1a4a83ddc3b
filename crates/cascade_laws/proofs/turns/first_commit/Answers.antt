use Rattle.cascade_laws.proofs.FirstTurns.{first_commit_law}
use Rattle.cascade_laws.proofs.turns.first_commit.Goals as goal

pub returns : goal.returns
returns c = first_commit_law
