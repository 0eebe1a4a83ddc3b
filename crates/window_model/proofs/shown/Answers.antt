use Rattle.window_model.proofs.Simulation.{shown_law}
use Rattle.window_model.proofs.shown.Goals as goal

pub returns : goal.returns
returns c = shown_law
