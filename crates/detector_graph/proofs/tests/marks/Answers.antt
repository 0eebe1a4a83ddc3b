use Rattle.std.proofs.Common.{◌≡◌, ◌∷◌, [], List, ℕ, true, false, sym, ap, ◌∙◌, subst}
use Rattle.graph_model.specs.Problems.{IsPart}
use Rattle.graph_model.specs.declared.PartEdge.{PartEdge}
use Rattle.detector_graph.proofs.Marks.{mark, marks_fit}
use Rattle.detector_graph.proofs.tests.marks.Goals as goal

pub new-requires : goal.new-requires
new-requires c =
    let edges : c.in_ok-edges.edges.items ≡ mark 4 true ∷ mark 7 false ∷ [] =
    c.in_ok-edges.ensures.items ∙ ap (λ (m : PartEdge). m ∷ c.mark-2.result ∷ []) c.mark.ensures
    ∙ ap (λ (m : PartEdge). mark 4 true ∷ m ∷ []) c.mark-2.ensures in
    subst (λ (ds : List ℕ). IsPart (record {
      window = 6;
      detectors = ds;
      edges = c.in_ok-edges.edges.items;
    }))
    (sym c.in_ok-detectors.ensures.items)
    (subst (λ (es : List PartEdge). IsPart (record { window = 6; detectors = 5 ∷ []; edges = es }))
    (sym edges) marks_fit)
