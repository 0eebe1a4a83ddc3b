use Rattle.std.proofs.Common.{◌<◌, ◌≤◌, ℕ, List, length, sym, ap, subst, All}
use Rattle.graph_model.specs.Limits.{most_places}
use Rattle.window_model.specs.Decoder.{Task}
use Rattle.window_setting.specs.Settings.{task_for}
use Rattle.window_setting.proofs.Shared.{plan_for, few_places, places_below}
use Rattle.window_setting.proofs.setting.Setting.places.Goals as goal

pub returns-clause-few : goal.returns-clause-few
returns-clause-few c =
    let task = c.args.self.now in
    let d = c.self.inside in
    subst (λ (xs : List ℕ). length xs ≤ most_places) (sym c.places.ensures)
    (few_places task d.plan (plan_for (task_for d.graph d.tags.items d.plan.plan
    d.ops.items d.raws.items d.last_slot) task d.plan c.self.view_is c.self.invariant.is_plan)
    (sym (ap (λ (t : Task). t.plan) c.self.view_is)) c.args.window c.requires.window
    c.args.dependency c.requires.dependency)

pub returns-clause-below : goal.returns-clause-below
returns-clause-below c =
    let task = c.args.self.now in
    let d = c.self.inside in
    subst (All (λ v. v < task.graph.vertices)) (sym c.places.ensures)
    (places_below task d.plan (plan_for (task_for d.graph d.tags.items d.plan.plan
    d.ops.items d.raws.items d.last_slot) task d.plan c.self.view_is c.self.invariant.is_plan)
    (sym (ap (λ (t : Task). t.plan) c.self.view_is)) c.args.window c.requires.window
    c.args.dependency c.requires.dependency)
