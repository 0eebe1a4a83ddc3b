-- The plan of a setting has the laws of plans.
use Rattle.std.proofs.Common.{sym, subst}
use Rattle.window_model.specs.Decoder.{Task}
use Rattle.window_model.specs.Laws.{PlanLaws}
use Rattle.window_model.proofs.Plans.{plan_law}
use Rattle.window_setting.specs.Settings.{IsSetting}

pub laws_of : (task : Task) → IsSetting task → PlanLaws task.graph task.tags task.plan
laws_of task h =
    let made = h.fit.is_plan in
    subst (PlanLaws task.graph task.tags) (sym h.plan_is)
    (plan_law task.graph task.tags made.order made.commit made.buffer h.placed.plan h.is_graph
    made.each_tag made.is_placed.is_plan)
