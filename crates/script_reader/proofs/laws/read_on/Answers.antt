use Rattle.script_reader.proofs.Read.{read_on_law}
use Rattle.script_reader.proofs.laws.read_on.Goals as goal

pub returns : goal.returns
returns c = read_on_law
