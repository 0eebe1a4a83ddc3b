use Rattle.std.proofs.Common.{◌≡◌, map}
use Rattle.std.specs.List.{range_with_len}
use Rattle.serde_json.specs.View.{view}
use Rattle.surface_model.specs.Schedules.{CondLine}
use Rattle.plan_report.specs.Lines.{op_data_at}
use Rattle.plan_report.proofs.line.ops_value.Given as goal

abbrev pub invariant-loop-at : goal.invariant-loop-at
invariant-loop-at l =
    map view l.rows.items ≡
    map (op_data_at l.gates (map (λ (c : CondLine). c.label) l.conds)) (range_with_len 0 l.at)
