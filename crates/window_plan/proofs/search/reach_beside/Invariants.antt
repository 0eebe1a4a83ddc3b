use Rattle.std.proofs.Common.{◌≡◌, ◌&&◌, take}
use Rattle.std.specs.Prelude.{nat_le}
use Rattle.std.specs.List.{list_any}
use Rattle.graph_model.specs.Graph.{ends_at, incident_edges}
use Rattle.window_model.specs.Windows.{home_of}
use Rattle.window_plan.specs.Searches.{Grows}
use Rattle.window_plan.proofs.search.reach_beside.Given as goal

abbrev pub invariant-loop-number : goal.invariant-loop-number
invariant-loop-number l = record {
  bound : l.found.bound ≡ l.fn.found.bound;
  grows : Grows
      (λ x. list_any (ends_at l.view.graph x)
      (take l.number-index (incident_edges l.view.graph l.vertex)) && nat_le l.view.window
      (home_of l.view.homes x)) l.fn.found.members l.found.members;
}
