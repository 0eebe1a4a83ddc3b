use Rattle.trace_laws.proofs.Told.{log_law}
use Rattle.trace_laws.proofs.laws.logged.Goals as goal

pub returns : goal.returns
returns c = log_law
