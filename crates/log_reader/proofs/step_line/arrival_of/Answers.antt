use Rattle.std.proofs.Common.{arith}
use Rattle.log_reader.proofs.Read.{arrival, no_arrival}
use Rattle.log_reader.proofs.step_line.arrival_of.Goals as goal

pub returns-in-Some : goal.returns-in-Some
returns-in-Some c = arrival c.args.rest.now c.in-Some.slot (omega arith) c.in-Some.ensures.some

pub returns-in-None : goal.returns-in-None
returns-in-None c = no_arrival c.args.rest.now c.in-None.ensures.none
