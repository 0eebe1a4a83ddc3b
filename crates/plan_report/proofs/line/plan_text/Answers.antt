use Rattle.std.proofs.Common.{ap, map, ◌∙◌}
use Rattle.serde_json.specs.Written.{has_float}
use Rattle.surface_model.specs.Schedules.{CondLine}
use Rattle.plan_report.proofs.Floats.{plan_exact}
use Rattle.plan_report.proofs.line.plan_text.Goals as goal

pub line_of-requires : goal.line_of-requires
line_of-requires c =
    ap has_float c.in_ok-value.ensures
    ∙ plan_exact c.args.graph.now c.args.plan.now.plan c.args.gates.now
    (map (λ (k : CondLine). k.label) c.args.conds.now)
