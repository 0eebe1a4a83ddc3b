use Rattle.std.proofs.Common.{◌∙◌}
use Rattle.claim_bits.proofs.Flipping.{flips_are}
use Rattle.claim_bits.proofs.flips.write_flips.Goals as goal

pub returns : goal.returns
returns c set is =
    c.write_ends.ensures
    ∙ flips_are c.args.setting.now c.args.source c.args.window set c.graph.result.now
    c.args.kept.now
    c.places.result.now c.graph.ensures is c.places.ensures.value
