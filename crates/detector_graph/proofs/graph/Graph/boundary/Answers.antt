use Rattle.std.proofs.Common.{get_or, sym, ap, ◌∙◌, take}
use Rattle.graph_model.specs.Parity.{◌⊕◌}
use Rattle.graph_model.specs.Graph.{boundary, ends_at, ends_of, is_in}
use Rattle.graph_model.proofs.Parities.{parity_more}
use Rattle.graph_model.proofs.Edges.{ends_at_get}
use Rattle.detector_graph.proofs.graph.Graph.boundary.Goals as goal

pub loop-number-preserved : goal.loop-number-preserved
loop-number-preserved c =
    let g = c.args.self.now in
    let items = c.as_slice-number-items.result.now in
    let i = c.loop-number.number-index in
    let edge = c.edge.result.now in
    record {
      len = cc;
      so_far = λ v.
          c.turn_ends.ensures.value v
          ∙ ap (λ b. b ⊕ is_in (ends_of edge) v) (c.loop-number.invariant.so_far v)
          ∙ ap (λ b. boundary g (take i items) v ⊕ b)
          (sym (ends_at_get g v (get_or items i 0) edge c.edge.ensures.value))
          ∙ sym (parity_more (ends_at g v) items i 0 c.loop-number-test.true);
    }
