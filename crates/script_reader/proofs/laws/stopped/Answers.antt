use Rattle.script_reader.proofs.Read.{stopped_law}
use Rattle.script_reader.proofs.laws.stopped.Goals as goal

pub returns : goal.returns
returns c = stopped_law
