use Rattle.std.proofs.Common.{◌≤◌, sym, subst, arith, get_or}
use Rattle.std.specs.List.Sorted.{IsStrictlyIncreasing}
use Rattle.graph_model.specs.Graph.{GraphEdge}
use Rattle.graph_model.proofs.Ascending.{place_le}
use Rattle.detector_graph.proofs.graph.Graph.weight_of.Goals as goal

-- a place is no higher than the member there, so there are at most 2^32 of them
pub overflow_add-total : goal.overflow_add-total
overflow_add-total c =
    let items = c.as_slice-number-items.result.now in
    let i = c.loop-number.number-index in
    let low : i ≤ get_or items i 0 =
    place_le items (subst IsStrictlyIncreasing (sym c.as_slice-number-items.ensures.value)
    c.as_slice-number-items.ensures.ascending) i c.loop-number-test.true in
    let light : c.behind-self.inside.weight ≤ 1000 = subst (λ (e : GraphEdge). e.weight ≤ 1000)
    (sym c.behind-self.view_is) c.edge.ensures.fits.weight in
    omega (arith, low, light, c.type_inv.number-items i, c.loop-number.invariant.bound)
