use Rattle.std.proofs.Common.{◌<◌, ◌++◌, ◌∙◌, All, ap, map, subst, sym}
use Rattle.std.specs.Prelude.{nat_lt, slice_index}
use Rattle.std.specs.List.{list_any}
use Rattle.std.proofs.lemmas.List.Elements.{All-filter}
use Rattle.std.proofs.lemmas.Result.{on_ok_weaker}
use Rattle.graph_model.specs.Graph.{incident_edges}
use Rattle.window_plan.specs.Contents.{Gathered, links_in}
use Rattle.window_plan.specs.Gathers.{border_by, places_by}
use Rattle.window_plan.specs.Views.{Viewed}
use Rattle.window_plan.proofs.Filled.{detectors_within, has_deps, has_detectors, places_read}
use Rattle.window_plan.proofs.contents.Scratch.add_places.Goals as goal

pub get-detectors-requires : goal.get-detectors-requires
get-detectors-requires c =
    let l : c.args.window < c.self.inside.layout.now.windows =
    subst (λ (s : Gathered). c.args.window < s.windows.count) (sym c.self.view_is) c.requires in
    has_detectors c.self.invariant c.is_graph.ensures.ends c.args.window l

pub get-deps-requires : goal.get-deps-requires
get-deps-requires c =
    let l : c.args.window < c.self.inside.layout.now.windows =
    subst (λ (s : Gathered). c.args.window < s.windows.count) (sym c.self.view_is) c.requires in
    has_deps c.self.invariant c.is_graph.ensures.ends c.args.window l

pub border_of-requires : goal.border_of-requires
border_of-requires c =
    let l : c.args.window < c.self.inside.layout.now.windows =
    subst (λ (s : Gathered). c.args.window < s.windows.count) (sym c.self.view_is) c.requires in
    let ds = c.get-detectors.result.now in
    record {
      below =
          subst (λ (v : Viewed). All (λ x. x < v.graph.vertices) ds) (sym c.view-view.ensures)
          (detectors_within c.self.invariant c.is_graph.ensures.ends c.args.window l ds
          c.get-detectors.ensures);
    }

pub push_places-requires : goal.push_places-requires
push_places-requires c =
    let l : c.args.window < c.self.inside.layout.now.windows =
    subst (λ (s : Gathered). c.args.window < s.windows.count) (sym c.self.view_is) c.requires in
    let ds = c.get-detectors.result.now in
    let view = c.view-view.result in
    let below : All (λ x. x < view.graph.vertices) ds =
    subst (λ (v : Viewed). All (λ x. x < v.graph.vertices) ds) (sym c.view-view.ensures)
    (detectors_within c.self.invariant c.is_graph.ensures.ends c.args.window l ds
    c.get-detectors.ensures) in
    subst (λ xs. All (λ x. x < view.graph.vertices) xs)
    (sym (c.deref.ensures.value ∙ c.in_ok-border_of.ensures))
    (All-filter (λ v. list_any (λ e. nat_lt (slice_index view.owners e) view.window)
    (incident_edges view.graph v)) (λ x. x < view.graph.vertices) ds below)

pub returns-clause-places : goal.returns-clause-places
returns-clause-places c =
    let w = c.args.window in
    let l : w < c.self.inside.layout.now.windows =
    subst (λ (s : Gathered). w < s.windows.count) (sym c.self.view_is) c.requires in
    let ds = c.get-detectors.result.now in
    let xs = c.get-deps.result.now in
    let view = c.view-view.result in
    let found =
    places_read c.self.invariant c.is_graph.ensures.ends w l ds xs
    (map (λ x. places_by view.graph view.owners x c.deref.result.now) xs)
    c.get-detectors.ensures c.get-deps.ensures
    (ap (λ bs. map (λ x. places_by view.graph view.owners x bs) xs)
    (c.deref.ensures.value ∙ c.in_ok-border_of.ensures)
    ∙ ap (λ (v : Viewed). map (λ x. places_by v.graph v.owners x
    (border_by v.graph v.owners v.window ds)) xs) c.view-view.ensures)
    ∙ ap (λ (s : Gathered). links_in s w) c.self.view_is in
    on_ok_weaker c.push_places.result
    (λ pushed. pushed ∙ ap (λ ps. c.args.places.now ++ ps) found) c.push_places.ensures.places
