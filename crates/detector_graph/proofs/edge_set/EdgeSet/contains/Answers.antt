use Rattle.std.proofs.Common.{ap, subst, sym, ◌∙◌}
use Rattle.std.specs.List.Sorted.{IsStrictlyIncreasing}
use Rattle.graph_model.specs.Graph.{is_in}
use Rattle.graph_model.proofs.Ascending.{found_or_not}
use Rattle.detector_graph.proofs.edge_set.EdgeSet.contains.Goals as goal

pub returns : goal.returns
returns c =
    c.is_ok.ensures.value
    ∙ found_or_not c.deref.result.now c.args.edge c.binary_search.result (subst IsStrictlyIncreasing
    (sym c.deref.ensures.value) c.self.invariant) c.binary_search.ensures.position
    ∙ ap (λ xs. is_in xs c.args.edge) (c.deref.ensures.value ∙ c.self.view_is)
