use Rattle.trace_laws.proofs.Told.{line_law}
use Rattle.trace_laws.proofs.laws.line_told.Goals as goal

pub returns : goal.returns
returns c = line_law
