use Rattle.release_laws.proofs.Following.{none_released_law}
use Rattle.release_laws.proofs.none_released.Goals as goal

pub returns : goal.returns
returns c = none_released_law
