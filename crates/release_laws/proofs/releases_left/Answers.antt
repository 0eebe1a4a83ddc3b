use Rattle.release_laws.proofs.Following.{left_releases_law}
use Rattle.release_laws.proofs.releases_left.Goals as goal

pub returns : goal.returns
returns c = left_releases_law
