use Rattle.std.proofs.Common.{◌≡◌, ◌<◌, ◌∙◌, [], All, ap, subst, sym, refl}
use Rattle.std.proofs.lemmas.Option.{get_or_from_slice_get}
use Rattle.std.proofs.lemmas.Result.{on_ok_weaker}
use Rattle.detector_graph.specs.Rows.{group_of}
use Rattle.window_plan.specs.Layouts.{Searched, deps_at, deps_in}
use Rattle.window_plan.specs.Views.{Viewed}
use Rattle.window_plan.proofs.Surveyed.{cell_below, cell_members, detectors_below, deps_found}
use Rattle.window_plan.proofs.survey.Scratch.look_at.Goals as goal

pub window_detectors-requires-clause-below : goal.window_detectors-requires-clause-below
window_detectors-requires-clause-below c =
    let view = c.view-view.result in
    let layout = c.self.inside.layout.now in
    let cell : c.row-cell.result.now ≡ group_of view.homes view.window =
    sym (get_or_from_slice_get layout.members.rows c.args.window c.row-cell.result.now []
    c.row-cell.ensures)
    ∙ c.self.invariant.layout.members_are c.args.window
    ∙ sym (ap (λ (v : Viewed). group_of v.homes v.window) c.view-view.ensures) in
    cell_below view.homes view.graph.vertices view.window c.is_view.ensures.homes
    c.row-cell.result.now cell

pub window_detectors-requires-clause-cell : goal.window_detectors-requires-clause-cell
window_detectors-requires-clause-cell c x l =
    let view = c.view-view.result in
    let layout = c.self.inside.layout.now in
    let cell : c.row-cell.result.now ≡ group_of view.homes view.window =
    sym (get_or_from_slice_get layout.members.rows c.args.window c.row-cell.result.now []
    c.row-cell.ensures)
    ∙ c.self.invariant.layout.members_are c.args.window
    ∙ sym (ap (λ (v : Viewed). group_of v.homes v.window) c.view-view.ensures) in
    cell_members view.homes view.graph.vertices view.window c.is_view.ensures.homes
    c.row-cell.result.now cell x l

pub dependencies-requires-clause-below : goal.dependencies-requires-clause-below
dependencies-requires-clause-below c =
    let view = c.view-view.result in
    subst (λ xs. All (λ x. x < view.graph.vertices) xs)
    (sym (c.deref.ensures.value ∙ c.in_ok-window_detectors.ensures.detectors))
    (detectors_below view.graph view.homes c.self.inside.buffer view.window)

pub returns-clause-deps : goal.returns-clause-deps
returns-clause-deps c =
    let view = c.view-view.result in
    let graph = c.self.inside.graph.now in
    let homes = c.self.inside.layout.now.homes.items in
    let bound = c.self.inside.lower.bound in
    let buffer = c.self.inside.buffer in
    on_ok_weaker c.dependencies.result
    (λ found. deps_found view.graph c.is_view.ensures.graph view.homes view.owners
    c.is_view.ensures.owners bound buffer view.window view.owners c.deref.result.now
    c.dependencies.new.deps.items bound refl refl
    (c.deref.ensures.value ∙ c.in_ok-window_detectors.ensures.detectors) found
    ∙ ap (λ (v : Viewed). deps_at v.graph v.homes bound buffer v.window) c.view-view.ensures
    ∙ ap (λ n. deps_at graph homes n buffer c.args.window) c.self.invariant.lower_is
    ∙ ap (λ (s : Searched). deps_in s.windows c.args.window) c.self.view_is)
    c.dependencies.ensures.deps
