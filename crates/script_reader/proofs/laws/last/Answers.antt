use Rattle.script_reader.proofs.Read.{last_law}
use Rattle.script_reader.proofs.laws.last.Goals as goal

pub returns : goal.returns
returns c = last_law
