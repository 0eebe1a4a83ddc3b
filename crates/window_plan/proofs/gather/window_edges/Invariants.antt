use Rattle.std.proofs.Common.{◌≡◌, ◌&&◌, take, []}
use Rattle.std.specs.Prelude.{nat_le, slice_index}
use Rattle.std.specs.List.{list_any}
use Rattle.graph_model.specs.Graph.{incident_edges, is_in}
use Rattle.window_plan.specs.Searches.{Grows}
use Rattle.window_plan.proofs.gather.window_edges.Given as goal

abbrev pub invariant-loop-vertex : goal.invariant-loop-vertex
invariant-loop-vertex l = record {
  bound : l.touched.bound ≡ l.fn.touched.bound;
  grows : Grows (λ x. list_any (λ v. is_in (incident_edges l.view.graph v) x)
      (take l.vertex-index l.detectors) && nat_le l.view.window
      (slice_index l.view.owners x)) [] l.touched.members;
}
