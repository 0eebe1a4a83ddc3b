use Rattle.std.proofs.Common.{◌≡◌, ◌/◌, length}
use Rattle.matching_core.proofs.numbers.certificate.Given as goal

abbrev pub invariant-loop-vertex : goal.invariant-loop-vertex
invariant-loop-vertex l = length l.sets.items ≡ l.nest.vertices / 2
