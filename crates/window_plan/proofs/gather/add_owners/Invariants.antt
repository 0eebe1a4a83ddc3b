use Rattle.std.proofs.Common.{◌≡◌, ◌&&◌, ◌==◌, take}
use Rattle.std.specs.Prelude.{nat_lt, slice_index}
use Rattle.std.specs.List.{list_any}
use Rattle.graph_model.specs.Graph.{incident_edges}
use Rattle.window_plan.specs.Searches.{Grows}
use Rattle.window_plan.proofs.gather.add_owners.Given as goal

abbrev pub invariant-loop-number : goal.invariant-loop-number
invariant-loop-number l = record {
  bound : l.deps.bound ≡ l.fn.deps.bound;
  grows : Grows (λ x. list_any (λ e. slice_index l.view.owners e == x)
      (take l.number-index (incident_edges l.view.graph l.vertex)) && nat_lt x l.view.window)
      l.fn.deps.members l.deps.members;
}
