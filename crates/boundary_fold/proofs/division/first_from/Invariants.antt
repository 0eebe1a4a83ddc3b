use Rattle.std.proofs.Common.{◌≤◌, ◌-◌, length}
use Rattle.boundary_fold.specs.Located.{AreBelow}
use Rattle.boundary_fold.proofs.division.first_from.Given as goal

abbrev pub invariant-loop-place : goal.invariant-loop-place
invariant-loop-place l = record {
  within : l.place ≤ length l.numbers;
  below : AreBelow l.numbers l.place l.number;
}

abbrev pub decreases-loop-place : goal.decreases-loop-place
decreases-loop-place l = length l.numbers - l.place
