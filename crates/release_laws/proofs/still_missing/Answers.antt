use Rattle.release_laws.proofs.Following.{still_missing_law}
use Rattle.release_laws.proofs.still_missing.Goals as goal

pub returns : goal.returns
returns c = still_missing_law
