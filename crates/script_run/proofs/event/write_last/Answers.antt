use Rattle.script_run.proofs.Telling.{last_told}
use Rattle.script_run.proofs.event.write_last.Goals as goal

pub returns : goal.returns
returns c old entry_ event happened =
    last_told old c.args.core.now entry_ event c.last_of-last.result c.args.labels.now _ _
    c.last_of-last.ensures happened c.in_ok-write_event.ensures
