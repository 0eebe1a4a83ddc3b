use Rattle.window_model.proofs.FirstTurns.{first_turn_law}
use Rattle.window_model.proofs.first_turn.Goals as goal

pub returns : goal.returns
returns c = first_turn_law
