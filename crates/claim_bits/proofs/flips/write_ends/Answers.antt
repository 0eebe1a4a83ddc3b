use Rattle.std.proofs.Common.{arith}
use Rattle.graph_model.specs.Graph.{boundary}
use Rattle.graph_model.proofs.Elements.{bits_are}
use Rattle.claim_bits.proofs.flips.write_ends.Goals as goal

pub returns : goal.returns
returns c =
    bits_are (boundary c.args.graph.now c.args.kept.now) c.args.places.now c.loop-at.into
    c.loop-at.invariant.len
    (λ k l. c.loop-at.invariant.so_far k (omega (
      arith,
      l,
      c.loop-at-test.false,
      c.len-at-end.ensures,
      c.requires.into,
    )))
