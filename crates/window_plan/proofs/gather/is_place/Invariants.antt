use Rattle.std.proofs.Common.{◌≡◌, ◌==◌, take, false}
use Rattle.std.specs.Prelude.{slice_index}
use Rattle.std.specs.List.{list_any}
use Rattle.graph_model.specs.Graph.{incident_edges}
use Rattle.window_plan.proofs.gather.is_place.Given as goal

abbrev pub invariant-loop-number : goal.invariant-loop-number
invariant-loop-number l =
    list_any (λ e. slice_index l.view.owners e == l.dependency)
    (take l.number-index (incident_edges l.view.graph l.vertex)) ≡ false
