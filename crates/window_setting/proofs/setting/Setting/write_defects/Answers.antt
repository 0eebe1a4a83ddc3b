use Rattle.std.proofs.Common.{◌<◌, ℕ, length, map, sym, ap, ◌∙◌, subst, All}
use Rattle.window_model.specs.Decoder.{Task}
use Rattle.window_model.specs.Windows.{WindowPlan, window_at}
use Rattle.window_plan.specs.Placed.{places_at}
use Rattle.window_setting.specs.Settings.{task_for}
use Rattle.window_setting.proofs.Lawful.{laws_of}
use Rattle.window_setting.proofs.Shared.{plan_for, below, links_long, defects_are, claim_defects_are}
use Rattle.window_setting.proofs.setting.Setting.write_defects.Goals as goal

pub incoming-requires-clause-values : goal.incoming-requires-clause-values
incoming-requires-clause-values c =
    let task = c.args.self.now in
    let d = c.self.inside in
    let same = sym (ap (λ (t : Task). t.plan) c.self.view_is) in
    subst (λ (plan : WindowPlan). All (λ v. v < length c.args.values.now)
    (window_at plan c.args.window).detectors) same
    (subst (λ (n : ℕ). All (λ v. v < n) (window_at task.plan c.args.window).detectors)
    (sym c.requires.values)
    (below task d.plan (plan_for (task_for d.graph d.tags.items d.plan.plan d.ops.items d.raws.items
    d.last_slot) task d.plan c.self.view_is c.self.invariant.is_plan) same c.args.window
    c.requires.window))

pub incoming-requires-clause-links : goal.incoming-requires-clause-links
incoming-requires-clause-links c =
    let task = c.args.self.now in
    let d = c.self.inside in
    let same = sym (ap (λ (t : Task). t.plan) c.self.view_is) in
    c.requires.links
    ∙ links_long task d.plan (plan_for (task_for d.graph d.tags.items d.plan.plan d.ops.items
    d.raws.items d.last_slot) task d.plan c.self.view_is c.self.invariant.is_plan) same
    c.args.window c.requires.window (window_at task.plan c.args.window).deps (λ x m. m)
    ∙ ap (λ (plan : WindowPlan). map (λ x. length (places_at d.plan x c.args.window))
    (window_at plan c.args.window).deps) same

pub returns-clause-value : goal.returns-clause-value
returns-clause-value c =
    let task = c.args.self.now in
    let d = c.self.inside in
    defects_are task d.plan (plan_for (task_for d.graph d.tags.items d.plan.plan d.ops.items
    d.raws.items d.last_slot) task d.plan c.self.view_is c.self.invariant.is_plan)
    (sym (ap (λ (t : Task). t.plan) c.self.view_is)) c.args.window c.requires.window
    (laws_of task c.is_setting.ensures) c.args.values.now c.args.links.now c.incoming.new.into
    c.incoming.ensures

pub returns-clause-claimed : goal.returns-clause-claimed
returns-clause-claimed c =
    let task = c.args.self.now in
    let d = c.self.inside in
    claim_defects_are task d.plan (plan_for (task_for d.graph d.tags.items d.plan.plan d.ops.items
    d.raws.items d.last_slot) task d.plan c.self.view_is c.self.invariant.is_plan)
    (sym (ap (λ (t : Task). t.plan) c.self.view_is)) c.args.window c.requires.window
    (laws_of task c.is_setting.ensures) c.args.values.now c.args.links.now c.incoming.new.into
    c.incoming.ensures
