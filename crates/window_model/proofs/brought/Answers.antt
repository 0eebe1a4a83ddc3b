use Rattle.window_model.proofs.Arrivals.{brought_law}
use Rattle.window_model.proofs.brought.Goals as goal

pub returns : goal.returns
returns c = brought_law
