use Rattle.std.proofs.Common.{◌≡◌, length}
use Rattle.matching_core.proofs.over.Over.raise_sets.Given as goal

abbrev pub invariant-loop-place : goal.invariant-loop-place
invariant-loop-place l = record {
  vertex : l.duals.vertex ≡ l.fn.duals.vertex;
  count : length l.duals.set.items ≡ length l.fn.duals.set.items;
}
