use Rattle.std.proofs.Common.{◌&&◌, ◌==◌, subst, sym}
use Rattle.std.specs.List.{list_any}
use Rattle.std.specs.List.Sorted.{IsStrictlyIncreasing}
use Rattle.graph_model.proofs.Ascending.{filter_take_below}
use Rattle.detector_graph.proofs.problem.owned_of.Goals as goal

pub push-requires : goal.push-requires
push-requires c =
    let items = c.as_slice-edge-items.result.now in
    rw c.loop-edge.invariant
    (filter_take_below (λ e. list_any (λ x. x.edge == e && x.owned) c.args.part.now.edges) items
    (subst IsStrictlyIncreasing (sym c.as_slice-edge-items.ensures.value)
    c.as_slice-edge-items.ensures.ascending) c.loop-edge.edge-index c.loop-edge-test.true)
