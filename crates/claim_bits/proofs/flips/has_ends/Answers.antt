use Rattle.std.proofs.Common.{arith}
use Rattle.graph_model.specs.Graph.{boundary}
use Rattle.graph_model.proofs.Elements.{bits_are}
use Rattle.claim_bits.proofs.flips.has_ends.Goals as goal

pub returns-clause-equal : goal.returns-clause-equal
returns-clause-equal c right =
    bits_are (boundary c.args.graph.now c.args.kept.now) c.args.places.now c.args.bits.now
    c.requires.bits
    (λ k l. c.loop-at.invariant k
    (omega (arith, l, c.loop-at-test.false, c.len-at-end.ensures, c.requires.bits)))
