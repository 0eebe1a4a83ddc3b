use Rattle.script_run.proofs.Acting.{arrival_may, arrived_moved}
use Rattle.script_run.proofs.act.bring.Goals as goal

pub arrive-requires : goal.arrive-requires
arrive-requires c =
    arrival_may c.args.core.now c.requires.row.0 c.args.row.now c.requires.row.1 c.requires.may

pub returns : goal.returns
returns c s brings =
    arrived_moved c.args.core.now s c.args.row.now brings c.arrive.new.self c.requires.may
    c.arrive.ensures
