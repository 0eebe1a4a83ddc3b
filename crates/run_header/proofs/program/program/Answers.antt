use Rattle.run_header.proofs.Heads.{header_sized}
use Rattle.run_header.proofs.program.program.Goals as goal

pub read-requires-clause-least : goal.read-requires-clause-least
read-requires-clause-least c = (header_sized c.args.text.now c.requires).0

pub read-requires-clause-most : goal.read-requires-clause-most
read-requires-clause-most c = (header_sized c.args.text.now c.requires).1
