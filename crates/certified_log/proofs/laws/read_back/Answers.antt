use Rattle.certified_log.proofs.Lines.{read_back_law}
use Rattle.certified_log.proofs.laws.read_back.Goals as goal

pub returns : goal.returns
returns c = read_back_law
