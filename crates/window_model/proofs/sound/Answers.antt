use Rattle.window_model.proofs.Soundness.{sound_law}
use Rattle.window_model.proofs.sound.Goals as goal

pub returns : goal.returns
returns c = sound_law
