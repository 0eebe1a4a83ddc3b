use Rattle.std.proofs.Common.{◌<◌, All, length, sym, ap, subst, ◌∙◌, get_or, false}
use Rattle.graph_model.specs.Graph.{GraphEdge, is_in}
use Rattle.graph_model.specs.Parity.{◌⊕◌}
use Rattle.pauli_frame.specs.Frames.{mask_at}
use Rattle.pauli_frame.proofs.Turning.{edge_more, mask_get}
use Rattle.pauli_frame.proofs.frame.turn_edges.Goals as goal

pub turn_labels-requires-clause-below : goal.turn_labels-requires-clause-below
turn_labels-requires-clause-below c =
    let g = c.args.graph.now in
    let items = c.as_slice-edge-items.result.now in
    let all = subst (All (λ e. All (λ l. l < length c.args.flips.now) (mask_at g e)))
    (sym c.as_slice-edge-items.ensures.value) c.requires.masks in
    let below = all c.loop-edge.edge-index 0 c.loop-edge-test.true in
    let same = mask_get g (get_or items c.loop-edge.edge-index 0) c.edge.result.now
    c.edge.ensures.value ∙ sym (ap (λ (e : GraphEdge). e.mask) c.behind-graph.view_is) in
    subst (λ n. All (λ l. l < n) c.behind-graph.inside.mask) (sym c.loop-edge.invariant.len)
    (subst (All (λ l. l < length c.args.flips.now)) same below)

pub loop-edge-preserved : goal.loop-edge-preserved
loop-edge-preserved c = record {
  len = c.turn_labels.ensures.len ∙ c.loop-edge.invariant.len;
  value = λ k.
      edge_more c.args.graph.now c.as_slice-edge-items.result.now c.loop-edge.edge-index
      k (get_or c.args.flips.now k false) (get_or c.loop-edge.flips k false)
      (get_or c.turn_labels.new.flips k false) c.edge.result.now
      c.loop-edge-test.true (c.loop-edge.invariant.value k) c.edge.ensures.value
      (c.turn_labels.ensures.value k ∙ ap (λ (e : GraphEdge). get_or c.loop-edge.flips k false
      ⊕ is_in e.mask k) c.behind-graph.view_is);
}
