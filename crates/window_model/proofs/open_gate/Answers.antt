use Rattle.window_model.proofs.ReadyRounds.{open_gate_law}
use Rattle.window_model.proofs.open_gate.Goals as goal

pub returns : goal.returns
returns c = open_gate_law
