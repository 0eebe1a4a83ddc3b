use Rattle.window_model.proofs.FirstTurns.{one_more_law}
use Rattle.window_model.proofs.one_more.Goals as goal

pub returns : goal.returns
returns c = one_more_law
