use Rattle.std.proofs.Common.{◌≡◌, ◌≢◌, ◌<◌, ◌≤◌, ℕ, length}
use Rattle.blossom_nest.specs.Kept.{IsChildAbove, at}
use Rattle.blossom_nest.proofs.parents.settle.Given as goal

abbrev pub invariant-loop-vertex : goal.invariant-loop-vertex
invariant-loop-vertex l = record {
  len : length l.top.items ≡ length l.initial.top.items;
  others : (v : ℕ) → v < l.vertex → at l.initial.top.items v ≢ l.set → at l.top.items v
      ≡ at l.initial.top.items v;
  done : (v : ℕ) → v < l.vertex → at l.initial.top.items v ≡ l.set →
      IsChildAbove l.parent v l.set (at l.top.items v);
  rest : (v : ℕ) → l.vertex ≤ v → at l.top.items v ≡ at l.initial.top.items v;
}
