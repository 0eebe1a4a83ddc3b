use Rattle.error_map.proofs.Keyed.{first_found, first_missed}
use Rattle.error_map.proofs.keys.first_by_halves.Goals as goal

pub returns-in-Ok : goal.returns-in-Ok
returns-in-Ok c =
    first_found c.args.keys.now c.args.key.now c.in-Ok.place c.requires c.in-Ok.ensures.bound
    c.in-Ok.ensures.ok

pub returns-in-Err : goal.returns-in-Err
returns-in-Err c =
    first_missed c.args.keys.now c.args.key.now c.in-Err.place c.requires c.in-Err.ensures.bound
    c.in-Err.ensures.position
