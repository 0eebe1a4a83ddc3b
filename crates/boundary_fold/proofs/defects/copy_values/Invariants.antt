use Rattle.std.proofs.Common.{◌≡◌, ◌<◌, ℕ, false, length, get_or}
use Rattle.boundary_fold.proofs.defects.copy_values.Given as goal

abbrev pub invariant-loop-at : goal.invariant-loop-at
invariant-loop-at l = record {
  len : length l.into ≡ length l.detectors;
  so_far : (k : ℕ) → k < l.at → get_or l.into k false
      ≡ get_or l.values (get_or l.detectors k 0) false;
}
