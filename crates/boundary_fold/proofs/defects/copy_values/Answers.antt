use Rattle.std.proofs.Common.{false, get_or, arith}
use Rattle.graph_model.proofs.Elements.{bits_are}
use Rattle.boundary_fold.proofs.defects.copy_values.Goals as goal

pub returns : goal.returns
returns c =
    bits_are (λ v. get_or c.args.values.now v false) c.args.detectors.now c.loop-at.into
    c.loop-at.invariant.len
    (λ k l. c.loop-at.invariant.so_far k (omega (
      arith,
      l,
      c.loop-at-test.false,
      c.len-at-end.ensures,
      c.requires.long,
    )))
