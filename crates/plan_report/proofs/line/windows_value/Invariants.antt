use Rattle.std.proofs.Common.{◌≡◌, map}
use Rattle.std.specs.List.{range_with_len}
use Rattle.serde_json.specs.View.{view}
use Rattle.plan_report.specs.Lines.{window_data_at}
use Rattle.plan_report.proofs.line.windows_value.Given as goal

abbrev pub invariant-loop-window : goal.invariant-loop-window
invariant-loop-window l =
    map view l.rows.items ≡ map (window_data_at l.plan.plan) (range_with_len 0 l.window)
