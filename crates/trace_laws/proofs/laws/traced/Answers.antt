use Rattle.trace_laws.proofs.Told.{trace_law}
use Rattle.trace_laws.proofs.laws.traced.Goals as goal

pub returns : goal.returns
returns c = trace_law
