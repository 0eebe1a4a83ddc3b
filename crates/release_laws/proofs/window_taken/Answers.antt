use Rattle.release_laws.proofs.Following.{taken_window_law}
use Rattle.release_laws.proofs.window_taken.Goals as goal

pub returns : goal.returns
returns c = taken_window_law
