use Rattle.std.proofs.Common.{length, sym, ap, ◌∙◌, arith}
use Rattle.window_model.specs.Decoder.{Task}
use Rattle.window_model.specs.Windows.{WindowPlan, window_at}
use Rattle.window_setting.specs.Settings.{task_for}
use Rattle.window_setting.proofs.Shared.{plan_for, few}
use Rattle.window_setting.proofs.setting.Setting.defects.Goals as goal

pub overflow_cast-count : goal.overflow_cast-count
overflow_cast-count c =
    let task = c.args.self.now in
    let d = c.self.inside in
    let same = sym (ap (λ (t : Task). t.plan) c.self.view_is) in
    let short = few task d.plan (plan_for (task_for d.graph d.tags.items d.plan.plan d.ops.items
    d.raws.items d.last_slot) task d.plan c.self.view_is c.self.invariant.is_plan) same
    c.args.window c.requires.window in
    let found = ap length c.detectors-count.ensures
    ∙ ap (λ (plan : WindowPlan). length (window_at plan c.args.window).detectors) (sym same) in
    omega (arith, short, found)
