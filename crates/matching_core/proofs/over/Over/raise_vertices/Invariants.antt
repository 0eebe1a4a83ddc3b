use Rattle.std.proofs.Common.{◌≡◌, length}
use Rattle.matching_core.proofs.over.Over.raise_vertices.Given as goal

abbrev pub invariant-loop-vertex : goal.invariant-loop-vertex
invariant-loop-vertex l = record {
  set : l.duals.set ≡ l.fn.duals.set;
  count : length l.duals.vertex.items ≡ length l.fn.duals.vertex.items;
}
