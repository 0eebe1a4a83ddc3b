use Rattle.std.proofs.Common.{◌≡◌, ◌<◌, ◌≤◌, ◌==◌, ℕ, cond, length}
use Rattle.blossom_nest.specs.Kept.{at}
use Rattle.blossom_nest.proofs.parents.lift.Given as goal

abbrev pub invariant-loop-vertex : goal.invariant-loop-vertex
invariant-loop-vertex l = record {
  len : length l.top.items ≡ length l.initial.top.items;
  done : (v : ℕ) → v < l.vertex → at l.top.items v
      ≡ cond (at l.parent (at l.initial.top.items v) == l.set) l.set (at l.initial.top.items v);
  rest : (v : ℕ) → l.vertex ≤ v → at l.top.items v ≡ at l.initial.top.items v;
}
