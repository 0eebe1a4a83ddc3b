use Rattle.cascade_laws.proofs.FirstTurns.{commit_law}
use Rattle.cascade_laws.proofs.turns.committable.Goals as goal

pub returns : goal.returns
returns c = commit_law
