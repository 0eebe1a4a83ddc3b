use Rattle.release_watch.proofs.Readying.{ready_law}
use Rattle.release_watch.proofs.laws.ready.Goals as goal

pub returns : goal.returns
returns c = ready_law
