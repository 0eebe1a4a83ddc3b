use Rattle.script_run.proofs.Acting.{reported_moved}
use Rattle.script_run.proofs.act.close.Goals as goal

pub returns : goal.returns
returns c s =
    reported_moved s c.args.core.now c.report.new.self c.args.finished c.requires.open
    c.requires.problem c.report.result c.report.ensures
