use Rattle.release_laws.proofs.Releasing.{releasable_law}
use Rattle.release_laws.proofs.releasable.Goals as goal

pub returns : goal.returns
returns c = releasable_law
