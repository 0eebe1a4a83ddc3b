use Rattle.std.proofs.Common.{◌≡◌, length}
use Rattle.pauli_frame.proofs.tests.told.Given as goal

abbrev pub invariant-loop-edge : goal.invariant-loop-edge
invariant-loop-edge l = length l.frame ≡ 2
