use Rattle.std.proofs.Common.{◌≡◌, ◌<◌, ℕ, List, length, sym, ap, ◌∙◌, subst, All}
use Rattle.std.specs.List.Sorted.{IsStrictlyIncreasing}
use Rattle.graph_model.specs.Problems.{IsPart, Part}
use Rattle.graph_model.specs.declared.PartEdge.{PartEdge}
use Rattle.window_model.specs.Parts.{part_of}
use Rattle.window_model.specs.Windows.{window_at}
use Rattle.boundary_fold.specs.Folds.{edges_with}
use Rattle.boundary_fold.specs.Located.{Located}
use Rattle.boundary_fold.proofs.Fits.{edges_below, part_is}
use Rattle.boundary_fold.proofs.Placed.{detectors_below}
use Rattle.boundary_fold.proofs.division.part.Goals as goal

abbrev part_with : ℕ → List ℕ → List PartEdge → Part
part_with w detectors edges = record { window = w; detectors = detectors; edges = edges }

pub note_places-requires-clause-below : goal.note_places-requires-clause-below
note_places-requires-clause-below c =
    let g = c.args.graph.now in
    subst (λ n. All (λ v. v < n) c.detectors-detectors.result.now) (sym c.requires.table)
    (subst (All (λ v. v < g.vertices)) (sym c.detectors-detectors.ensures)
    (detectors_below g c.requires.plan.0 c.args.plan.now c.requires.plan.1 c.args.window
    c.requires.window))

pub part_edges-requires-clause-rising : goal.part_edges-requires-clause-rising
part_edges-requires-clause-rising c =
    subst IsStrictlyIncreasing (sym c.edges.ensures) (c.is_plan.ensures.edges_rise c.args.window)

pub part_edges-requires-clause-edges : goal.part_edges-requires-clause-edges
part_edges-requires-clause-edges c =
    subst (All (λ e. e < length c.args.graph.now.edges)) (sym c.edges.ensures)
    (edges_below c.args.graph.now c.requires.plan.0 c.args.plan.now c.requires.plan.1
    c.args.window c.requires.window)

pub part_edges-requires-clause-owned : goal.part_edges-requires-clause-owned
part_edges-requires-clause-owned c =
    subst IsStrictlyIncreasing (sym c.owned.ensures) (c.is_plan.ensures.owned_rise c.args.window)

pub new-requires : goal.new-requires
new-requires c =
    let g = c.args.graph.now in
    let p = c.args.plan.now in
    let w = c.args.window in
    let ds : c.in_ok-detectors.detectors.items ≡ (window_at p.plan w).detectors =
    c.in_ok-detectors.ensures.items ∙ c.detectors-detectors.ensures in
    let es : c.in_ok-edges.edges.items ≡ (part_of g p.plan w).edges =
    c.in_ok-edges.ensures
    ∙ ap (λ (l : Located). edges_with g l.detectors c.owned.result.now c.edges.result.now)
    c.new-located.ensures
    ∙ ap (λ xs. edges_with g xs c.owned.result.now c.edges.result.now) c.detectors-detectors.ensures
    ∙ ap (λ xs. edges_with g (window_at p.plan w).detectors xs c.edges.result.now) c.owned.ensures
    ∙ ap (edges_with g (window_at p.plan w).detectors (window_at p.plan w).owned) c.edges.ensures in
    subst (λ (xs : List PartEdge). IsPart (record {
      window = w;
      detectors = c.in_ok-detectors.detectors.items;
      edges = xs;
    })) (sym es)
    (subst (λ (xs : List ℕ).
    IsPart (record { window = w; detectors = xs; edges = (part_of g p.plan w).edges })) (sym ds)
    (part_is g c.requires.plan.0 p c.requires.plan.1 w c.requires.window c.is_plan.ensures
    c.is_graph.ensures.fit c.is_graph.ensures.count c.requires.plan.2))

pub returns-clause-part : goal.returns-clause-part
returns-clause-part c =
    let g = c.args.graph.now in
    let p = c.args.plan.now in
    let w = c.args.window in
    let ds : c.in_ok-detectors.detectors.items ≡ (window_at p.plan w).detectors =
    c.in_ok-detectors.ensures.items ∙ c.detectors-detectors.ensures in
    let es : c.in_ok-edges.edges.items ≡ (part_of g p.plan w).edges =
    c.in_ok-edges.ensures
    ∙ ap (λ (l : Located). edges_with g l.detectors c.owned.result.now c.edges.result.now)
    c.new-located.ensures
    ∙ ap (λ xs. edges_with g xs c.owned.result.now c.edges.result.now) c.detectors-detectors.ensures
    ∙ ap (λ xs. edges_with g (window_at p.plan w).detectors xs c.edges.result.now) c.owned.ensures
    ∙ ap (edges_with g (window_at p.plan w).detectors (window_at p.plan w).owned) c.edges.ensures in
    c.in_ok-new.ensures.ok
    ∙ c.in_ok-part.ensures
    ∙ ap (λ (xs : List ℕ). part_with w xs c.in_ok-edges.edges.items) ds
    ∙ ap (part_with w (window_at p.plan w).detectors) es
