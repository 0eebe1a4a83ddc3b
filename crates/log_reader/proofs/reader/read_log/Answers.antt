use Rattle.std.proofs.Common.{map}
use Rattle.log_reader.specs.Steps.{step_of}
use Rattle.log_reader.proofs.Outside.{read_as, read_well}
use Rattle.log_reader.proofs.reader.read_log.Goals as goal

pub returns-clause-only : goal.returns-clause-only
returns-clause-only c =
    read_as (λ found. map step_of found.items) c.args.text.now c.read_text.result
    (read_well (λ found. map step_of found.items) c.args.text.now c.read_text.result
    c.read_text.ensures.found c.read_text.ensures.fault)
