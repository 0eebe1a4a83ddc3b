use Rattle.log_reader.proofs.Outside.{one_fault_law}
use Rattle.log_reader.proofs.laws.one_fault.Goals as goal

pub returns : goal.returns
returns c = one_fault_law
