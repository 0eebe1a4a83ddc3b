use Rattle.std.proofs.Common.{◌≡◌, length}
use Rattle.boundary_fold.proofs.tests.flips.Given as goal

abbrev pub invariant-loop-at : goal.invariant-loop-at
invariant-loop-at l = length l.bits ≡ length l.places
