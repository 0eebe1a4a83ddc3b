use Rattle.log_reader.proofs.Aligned.{logged_law}
use Rattle.log_reader.proofs.laws.logged.Goals as goal

pub returns : goal.returns
returns c = logged_law
