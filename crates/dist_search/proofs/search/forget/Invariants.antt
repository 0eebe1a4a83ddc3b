use Rattle.std.proofs.Common.{ℕ, ◌≡◌, ◌<◌, ◌≤◌, vec_len, get_or, length}
use Rattle.dist_search.proofs.search.forget.Given as goal

abbrev pub invariant-loop-vertex : goal.invariant-loop-vertex
invariant-loop-vertex l = record {
  count : vec_len l.left ≡ vec_len l.initial.left;
  known : (v : ℕ) → 0 < get_or l.left.items v 0 → (k : ℕ) × (l.vertex-index ≤ k)
      × (k < length l.reached) × (get_or l.reached k v ≡ v);
}
