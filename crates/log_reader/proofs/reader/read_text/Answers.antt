use Rattle.log_reader.proofs.Outside.{no_head}
use Rattle.log_reader.proofs.reader.read_text.Goals as goal

pub returns-in_default-clause-fault : goal.returns-in_default-clause-fault
returns-in_default-clause-fault c = no_head c.args.text.now c.in_default.ensures.cases
