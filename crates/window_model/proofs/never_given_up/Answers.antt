use Rattle.window_model.proofs.Firm.{firm_law}
use Rattle.window_model.proofs.never_given_up.Goals as goal

pub returns : goal.returns
returns c = firm_law
