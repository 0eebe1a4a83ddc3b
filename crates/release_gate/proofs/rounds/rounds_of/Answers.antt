use Rattle.std.proofs.Common.{◌<◌, [], All, length, sym, ap, subst, ◌∙◌, arith}
use Rattle.std.proofs.lemmas.List.{get_or-map}
use Rattle.release_gate.proofs.rounds.rounds_of.Goals as goal

pub round_of-requires : goal.round_of-requires
round_of-requires c =
    let needs = c.args.needs.now in
    let at = c.loop-at.at in
    let within : at < length needs = omega (arith, c.loop-at-test.true, c.requires.each) in
    let same = get_or-map (λ v. v.items) needs at c.index-needs-at.result [] within
    ∙ ap (λ v. v.items) (sym c.index-needs-at.is) ∙ sym c.as_slice.ensures.value in
    subst (All (λ w. w < length c.args.slots.now)) same (c.requires.windows at within)
