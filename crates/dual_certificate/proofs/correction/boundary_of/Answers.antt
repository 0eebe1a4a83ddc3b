use Rattle.std.proofs.Common.{get_or, sym, ap, ◌∙◌}
use Rattle.graph_model.specs.Parity.{◌⊕◌}
use Rattle.graph_model.specs.Problems.{meets}
use Rattle.graph_model.proofs.Parities.{parity_more}
use Rattle.dual_certificate.proofs.correction.boundary_of.Goals as goal

pub loop-number-preserved : goal.loop-number-preserved
loop-number-preserved c =
    let i = c.loop-number.number-index in
    let part = c.args.problem.now.part in
    record {
      count = cc;
      so_far = λ v.
          c.turn_edge.ensures.value v
          ∙ ap (λ b. b ⊕ meets part v (get_or c.args.set.now i 0))
          (c.loop-number.invariant.so_far v)
          ∙ sym (parity_more (meets part v) c.args.set.now i 0 c.loop-number-test.true);
    }
