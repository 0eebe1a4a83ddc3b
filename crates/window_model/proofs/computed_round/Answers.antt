use Rattle.window_model.proofs.ReadyRounds.{computed_round_law}
use Rattle.window_model.proofs.computed_round.Goals as goal

pub returns : goal.returns
returns c = computed_round_law
