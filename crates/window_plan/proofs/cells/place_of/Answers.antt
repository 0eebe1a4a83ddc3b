use Rattle.window_plan.proofs.Ranked.{key_found, key_missed}
use Rattle.window_plan.proofs.cells.place_of.Goals as goal

pub unreachable-requires : goal.unreachable-requires
unreachable-requires c =
    key_missed c.args.ranks.now c.args.key.now c.in-Err.field-0 c.requires.rising c.requires.member
    c.in-Err.ensures.position

pub returns : goal.returns
returns c = key_found c.args.ranks.now c.args.key.now c.in-Ok.place c.in-Ok.ensures.bound
    c.in-Ok.ensures.ok
