use Rattle.release_laws.proofs.Releasing.{first_release_law}
use Rattle.release_laws.proofs.first_release.Goals as goal

pub returns : goal.returns
returns c = first_release_law
