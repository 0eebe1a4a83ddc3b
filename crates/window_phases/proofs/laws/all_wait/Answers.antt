use Rattle.window_phases.proofs.Tables.{all_wait_law}
use Rattle.window_phases.proofs.laws.all_wait.Goals as goal

pub returns : goal.returns
returns c = all_wait_law
