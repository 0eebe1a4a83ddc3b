use Rattle.std.proofs.Common.{◌≡◌, take, filter}
use Rattle.std.specs.Prelude.{nat_lt, slice_index}
use Rattle.std.specs.List.{list_any}
use Rattle.graph_model.specs.Graph.{incident_edges}
use Rattle.window_plan.proofs.gather.border_of.Given as goal

abbrev pub invariant-loop-vertex : goal.invariant-loop-vertex
invariant-loop-vertex l =
    l.border.items
    ≡ filter (λ v. list_any (λ e. nat_lt (slice_index l.view.owners e) l.view.window)
    (incident_edges l.view.graph v)) (take l.vertex-index l.detectors)
