use Rattle.std.proofs.Common.{◌≡◌, ◌<◌, ◌≤◌, ℕ, true, false, get_or}
use Rattle.std.specs.Prelude.{sum}
use Rattle.graph_model.specs.declared.PartEdge.{PartEdge}
use Rattle.detector_graph.specs.Steps.{AreLed, IsCloseEdge}
use Rattle.detector_graph.proofs.steps.lower.Given as goal

abbrev pub invariant-loop-edge : goal.invariant-loop-edge
invariant-loop-edge l = record {
  led : AreLed l.places l.edges l.homes.items;
  most : sum l.homes.items ≤ sum l.fn.homes.items;
  less : l.lowered ≡ true → sum l.homes.items < sum l.fn.homes.items;
  close : l.lowered ≡ false → (k : ℕ) (d : PartEdge) → k < l.edge-index →
      IsCloseEdge l.places l.homes.items (get_or l.edges k d);
}
