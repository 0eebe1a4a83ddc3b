use Rattle.std.proofs.Common.{◌≡◌, ◌<◌, ◌++◌, ◌∷◌, ◌∙◌, [], All, ap, subst, sym}
use Rattle.std.proofs.lemmas.Result.{on_ok_weaker}
use Rattle.window_plan.specs.Contents.{Gathered, edges_in}
use Rattle.window_plan.specs.Gathers.{edges_by}
use Rattle.window_plan.specs.Views.{Viewed}
use Rattle.window_plan.proofs.Filled.{detectors_within, edges_read, has_detectors}
use Rattle.window_plan.proofs.contents.Scratch.add_edges.Goals as goal

pub get-detectors-requires : goal.get-detectors-requires
get-detectors-requires c =
    let l : c.args.window < c.self.inside.layout.now.windows =
    subst (λ (s : Gathered). c.args.window < s.windows.count) (sym c.self.view_is) c.requires in
    has_detectors c.self.invariant c.is_graph.ensures.ends c.args.window l

pub window_edges-requires-clause-below : goal.window_edges-requires-clause-below
window_edges-requires-clause-below c =
    let l : c.args.window < c.self.inside.layout.now.windows =
    subst (λ (s : Gathered). c.args.window < s.windows.count) (sym c.self.view_is) c.requires in
    let ds = c.get-detectors.result.now in
    subst (λ (v : Viewed). All (λ x. x < v.graph.vertices) ds) (sym c.view-view.ensures)
    (detectors_within c.self.invariant c.is_graph.ensures.ends c.args.window l ds
    c.get-detectors.ensures)

pub returns-clause-edges : goal.returns-clause-edges
returns-clause-edges c =
    let w = c.args.window in
    let l : w < c.self.inside.layout.now.windows =
    subst (λ (s : Gathered). w < s.windows.count) (sym c.self.view_is) c.requires in
    let ds = c.get-detectors.result.now in
    let found : c.deref.result.now ≡ edges_in c.args.self.now w =
    c.deref.ensures.value
    ∙ edges_read c.self.invariant c.is_graph.ensures.ends w l ds c.window_edges.new.edges.items
    c.get-detectors.ensures
    (c.in_ok-window_edges.ensures.edges
    ∙ ap (λ (v : Viewed). edges_by v.graph v.owners v.window ds) c.view-view.ensures)
    ∙ ap (λ (s : Gathered). edges_in s w) c.self.view_is in
    on_ok_weaker c.push.result
    (λ pushed. pushed ∙ ap (λ xs. c.args.edges.now ++ xs ∷ []) found) c.push.ensures.ok
