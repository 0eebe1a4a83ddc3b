use Rattle.window_model.proofs.Lengths.{length_law}
use Rattle.window_model.proofs.limited.Goals as goal

pub returns : goal.returns
returns c = length_law
