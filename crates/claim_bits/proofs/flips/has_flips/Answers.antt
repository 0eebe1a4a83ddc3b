use Rattle.std.proofs.Common.{sym, ◌∙◌}
use Rattle.claim_bits.proofs.Flipping.{flips_are}
use Rattle.claim_bits.proofs.flips.has_flips.Goals as goal

pub returns-clause-equal : goal.returns-clause-equal
returns-clause-equal c set is right =
    c.has_ends.ensures.equal right
    ∙ flips_are c.args.setting.now c.args.source c.args.window set c.graph.result.now
    c.args.kept.now
    c.places.result.now c.graph.ensures is c.places.ensures.value

pub returns-clause-differ : goal.returns-clause-differ
returns-clause-differ c set is wrong same =
    c.has_ends.ensures.differ wrong
    (same
    ∙ sym (flips_are c.args.setting.now c.args.source c.args.window set c.graph.result.now
    c.args.kept.now c.places.result.now c.graph.ensures is c.places.ensures.value))
