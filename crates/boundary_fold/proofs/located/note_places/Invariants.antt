use Rattle.std.proofs.Common.{◌≡◌, ◌<◌, ℕ, get_or, length}
use Rattle.boundary_fold.proofs.located.note_places.Given as goal

abbrev pub invariant-loop-place : goal.invariant-loop-place
invariant-loop-place l = record {
  long : length l.table.items ≡ length l.initial.table.items;
  noted : (i : ℕ) → i < l.place → get_or l.table.items (get_or l.detectors i 0) 0 ≡ i;
}
