use Rattle.std.proofs.Common.{◌≡◌, ◌≤◌, length, ap, ◌∙◌, sym, arith, subst}
use Rattle.surface_model.specs.Schedules.{Schedule}
use Rattle.surface_model.specs.Errors.{graph_of, mechanisms, sources}
use Rattle.surface_model.specs.Layout.{last_slot}
use Rattle.surface_model.specs.Limits.{most_weight}
use Rattle.error_map.specs.Seen.{mechanisms_of}
use Rattle.error_map.proofs.EdgeSteps.{detectors_are, few_detectors}
use Rattle.error_map.proofs.Masked.{last_small}
use Rattle.error_map.proofs.Limits.{edges_fit, same_graph, same_tags, is_grounded, is_sparse}
use Rattle.error_map.proofs.building.graph.Goals as goal

pub new-requires-clause-last : goal.new-requires-clause-last
new-requires-clause-last c =
    let last : c.last_slot.result ≡ last_slot c.args.program.now = c.last_slot.ensures in
    let small = last_small c.args.program.now c.is_accepted.ensures in
    (last ∙ ap last_slot (sym c.schedule-schedule.ensures.schedule), omega (arith, last, small))

pub edges_of-found-requires : goal.edges_of-found-requires
edges_of-found-requires c = ap mechanisms_of c.deref.ensures.value ∙ c.in_ok-all.ensures
    ∙ ap (λ (x : Schedule). mechanisms x) (sym (c.in_ok-lookup.ensures
    ∙ c.schedule-schedule.ensures.schedule))

pub build-requires-clause-fit : goal.build-requires-clause-fit
build-requires-clause-fit c =
    let s = c.args.program.now in
    let w = c.is_read.ensures.weights in
    let same = c.schedule-schedule.ensures.schedule in
    let ds = c.detectors-detectors.result.now in
    let given = detectors_are s c.args.map.now ds c.requires.made c.detectors-detectors.ensures in
    (edges_fit s c.is_accepted.ensures
    (subst (λ (x : Schedule). x.space ≤ most_weight) same w.space.1)
    (subst (λ (x : Schedule). x.time ≤ most_weight) same w.time.1) c.requires.few (length ds)
    (few_detectors s ds given)
    _ (c.in_ok-edges.ensures.edges
    ∙ ap (λ (x : Schedule). (graph_of x).edges) (c.in_ok-lookup.ensures ∙ same))).0

pub build-requires-clause-count : goal.build-requires-clause-count
build-requires-clause-count c =
    let s = c.args.program.now in
    let w = c.is_read.ensures.weights in
    let same = c.schedule-schedule.ensures.schedule in
    let ds = c.detectors-detectors.result.now in
    let given = detectors_are s c.args.map.now ds c.requires.made c.detectors-detectors.ensures in
    (edges_fit s c.is_accepted.ensures
    (subst (λ (x : Schedule). x.space ≤ most_weight) same w.space.1)
    (subst (λ (x : Schedule). x.time ≤ most_weight) same w.time.1) c.requires.few (length ds)
    (few_detectors s ds given)
    _ (c.in_ok-edges.ensures.edges
    ∙ ap (λ (x : Schedule). (graph_of x).edges) (c.in_ok-lookup.ensures ∙ same))).1

pub returns-clause-graph : goal.returns-clause-graph
returns-clause-graph c =
    let s = c.args.program.now in
    let same = c.schedule-schedule.ensures.schedule in
    let ds = c.detectors-detectors.result.now in
    let given = detectors_are s c.args.map.now ds c.requires.made c.detectors-detectors.ensures in
    c.in_ok-graph.ensures
    ∙ same_graph s (length ds) (few_detectors s ds given) _ (c.in_ok-edges.ensures.edges
    ∙ ap (λ (x : Schedule). (graph_of x).edges) (c.in_ok-lookup.ensures ∙ same))

pub returns-clause-tags : goal.returns-clause-tags
returns-clause-tags c =
    let s = c.args.program.now in
    let ds = c.detectors-detectors.result.now in
    c.in_ok-tags.ensures
    ∙ same_tags s ds
    (detectors_are s c.args.map.now ds c.requires.made c.detectors-detectors.ensures)

pub returns-clause-sources : goal.returns-clause-sources
returns-clause-sources c =
    c.in_ok-edges.ensures.sources
    ∙ ap sources (c.in_ok-lookup.ensures ∙ c.schedule-schedule.ensures.schedule)

pub returns-clause-grounded : goal.returns-clause-grounded
returns-clause-grounded c =
    let s = c.args.program.now in
    let same = c.schedule-schedule.ensures.schedule in
    let ds = c.detectors-detectors.result.now in
    let given = detectors_are s c.args.map.now ds c.requires.made c.detectors-detectors.ensures in
    is_grounded s c.is_accepted.ensures c.in_ok-graph.graph c.in_ok-tags.tags.items
    (c.in_ok-graph.ensures
    ∙ same_graph s (length ds) (few_detectors s ds given) _ (c.in_ok-edges.ensures.edges
    ∙ ap (λ (x : Schedule). (graph_of x).edges) (c.in_ok-lookup.ensures ∙ same)))
    (c.in_ok-tags.ensures ∙ same_tags s ds given)

pub returns-clause-sparse : goal.returns-clause-sparse
returns-clause-sparse c =
    let s = c.args.program.now in
    let same = c.schedule-schedule.ensures.schedule in
    let ds = c.detectors-detectors.result.now in
    let given = detectors_are s c.args.map.now ds c.requires.made c.detectors-detectors.ensures in
    is_sparse s c.is_accepted.ensures c.in_ok-graph.graph
    (c.in_ok-graph.ensures
    ∙ same_graph s (length ds) (few_detectors s ds given) _ (c.in_ok-edges.ensures.edges
    ∙ ap (λ (x : Schedule). (graph_of x).edges) (c.in_ok-lookup.ensures ∙ same)))

pub overflow_cast-detectors : goal.overflow_cast-detectors
overflow_cast-detectors c =
    let s = c.args.program.now in
    let ds = c.detectors-detectors.result.now in
    let n = few_detectors s ds
    (detectors_are s c.args.map.now ds c.requires.made c.detectors-detectors.ensures) in
    omega (arith, n, c.requires.few)
