use Rattle.std.proofs.Common.{◌≡◌, take, false}
use Rattle.std.specs.Prelude.{nat_lt, slice_index}
use Rattle.std.specs.List.{list_any}
use Rattle.graph_model.specs.Graph.{incident_edges}
use Rattle.window_plan.proofs.gather.is_border.Given as goal

abbrev pub invariant-loop-number : goal.invariant-loop-number
invariant-loop-number l =
    list_any (λ e. nat_lt (slice_index l.view.owners e) l.view.window)
    (take l.number-index (incident_edges l.view.graph l.vertex)) ≡ false
