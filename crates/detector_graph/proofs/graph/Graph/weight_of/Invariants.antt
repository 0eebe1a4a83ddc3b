use Rattle.std.proofs.Common.{◌≡◌, ◌≤◌, ◌*◌, take}
use Rattle.graph_model.specs.Graph.{weight_of}
use Rattle.detector_graph.proofs.graph.Graph.weight_of.Given as goal

-- the weight of the edges so far
abbrev pub invariant-loop-number : goal.invariant-loop-number
invariant-loop-number l = record {
  bound : l.total ≤ l.number-index * 1000;
  so_far : l.total ≡ weight_of l.self (take l.number-index l.number-items);
}
