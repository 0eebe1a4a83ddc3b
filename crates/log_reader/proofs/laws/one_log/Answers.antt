use Rattle.log_reader.proofs.Aligned.{one_log_law}
use Rattle.log_reader.proofs.laws.one_log.Goals as goal

pub returns : goal.returns
returns c = one_log_law
