use Rattle.std.proofs.Common.{◌≡◌, ◌+◌, ℕ, length, if◌then◌else◌, slice_index, take}
use Rattle.graph_model.specs.Graph.{is_in}
use Rattle.release_watch.proofs.watch.lower.Given as goal

-- the places so far
abbrev pub invariant-loop-place : goal.invariant-loop-place
invariant-loop-place l = record {
  len : length l.counts ≡ length l.fn.counts;
  value : (k : ℕ) → slice_index l.fn.counts k ≡ slice_index l.counts k
      + (if is_in (take l.place-index l.places) k then 1 else 0);
}
