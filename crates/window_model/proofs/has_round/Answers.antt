use Rattle.window_model.proofs.ReadyRounds.{round_law}
use Rattle.window_model.proofs.has_round.Goals as goal

pub returns : goal.returns
returns c = round_law
