use Rattle.std.proofs.Common.{◌≡◌, length}
use Rattle.matching_cases.proofs.problem.set_all.Given as goal

abbrev pub invariant-loop-place : goal.invariant-loop-place
invariant-loop-place l = length l.bits ≡ length l.initial.bits
