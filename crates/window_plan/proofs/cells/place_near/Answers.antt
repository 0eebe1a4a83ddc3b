use Rattle.std.proofs.Common.{◌∙◌, sym, arith}
use Rattle.window_plan.proofs.Ranked.{key_same}
use Rattle.window_plan.proofs.cells.place_near.Goals as goal

pub returns-then-eq-clause-found : goal.returns-then-eq-clause-found
returns-then-eq-clause-found c =
    let some = c.requires.member.1 in
    let near = c.requires.near in
    key_same c.args.ranks.now c.args.key.now c.args.near (omega (arith, some, near))
    (sym c.eq.ensures ∙ c.if-eq.true)
