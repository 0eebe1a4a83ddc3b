use Rattle.window_model.proofs.ReadyRounds.{prompt_law}
use Rattle.window_model.proofs.prompt.Goals as goal

pub returns : goal.returns
returns c = prompt_law
