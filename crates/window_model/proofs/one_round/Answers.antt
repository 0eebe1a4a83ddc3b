use Rattle.window_model.proofs.ReadyRounds.{one_round_law}
use Rattle.window_model.proofs.one_round.Goals as goal

pub returns : goal.returns
returns c = one_round_law
