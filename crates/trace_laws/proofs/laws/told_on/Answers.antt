use Rattle.trace_laws.proofs.More.{more_told_law}
use Rattle.trace_laws.proofs.laws.told_on.Goals as goal

pub returns : goal.returns
returns c = more_told_law
