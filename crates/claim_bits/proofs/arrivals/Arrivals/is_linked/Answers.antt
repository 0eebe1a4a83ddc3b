use Rattle.std.proofs.Common.{get_or, sym, ap, ◌∙◌, length}
use Rattle.graph_model.specs.Graph.{ends_at, is_in}
use Rattle.graph_model.proofs.Members.{is_in_at}
use Rattle.window_model.proofs.Plans.{in_below}
use Rattle.claim_bits.proofs.arrivals.Arrivals.is_linked.Goals as goal

pub joins-requires-clause-edge : goal.joins-requires-clause-edge
joins-requires-clause-edge c =
    let g = c.args.self.now.task.graph in
    let items = c.incident-edge-items.result.now in
    let edge = get_or items c.loop-edge.edge-index 0 in
    (in_below (ends_at g c.args.detector) (length g.edges) edge
    (ap (λ xs. is_in xs edge) (sym c.incident-edge-items.ensures)
    ∙ is_in_at items c.loop-edge.edge-index c.loop-edge-test.true)).0
