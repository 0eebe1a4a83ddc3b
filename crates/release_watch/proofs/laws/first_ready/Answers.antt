use Rattle.release_watch.proofs.Readying.{first_ready_law}
use Rattle.release_watch.proofs.laws.first_ready.Goals as goal

pub returns : goal.returns
returns c = first_ready_law
