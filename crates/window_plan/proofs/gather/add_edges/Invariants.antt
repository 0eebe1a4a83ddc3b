use Rattle.std.proofs.Common.{◌≡◌, ◌&&◌, take}
use Rattle.std.specs.Prelude.{nat_le, slice_index}
use Rattle.graph_model.specs.Graph.{incident_edges, is_in}
use Rattle.window_plan.specs.Searches.{Grows}
use Rattle.window_plan.proofs.gather.add_edges.Given as goal

abbrev pub invariant-loop-number : goal.invariant-loop-number
invariant-loop-number l = record {
  bound : l.edges.bound ≡ l.fn.edges.bound;
  grows : Grows (λ x. is_in (take l.number-index (incident_edges l.view.graph l.vertex)) x
      && nat_le l.view.window (slice_index l.view.owners x)) l.fn.edges.members l.edges.members;
}
