use Rattle.std.proofs.Common.{◌≡◌, ◌<◌, ◌≤◌, ◌+◌, ◌-◌, ◌++◌, All, vec_len}
use Rattle.std.specs.Vec.{vec_capacity}
use Rattle.blossom_forest.specs.Trees.{names, way_up}
use Rattle.blossom_forest.proofs.paths.path_to_root.Given as goal

abbrev pub invariant-loop-step : goal.invariant-loop-step
invariant-loop-step l = record {
  here : l.here < names l.trees.vertices;
  way : l.path.items ++ way_up (l.trees.vertices - l._step) l.nest l.trees l.here
      ≡ l.fn.path.items ++ way_up l.trees.vertices l.nest l.trees l.set;
  low : All (λ s. s < names l.trees.vertices) l.fn.path.items →
      All (λ s. s < names l.trees.vertices) l.path.items;
  len : vec_len l.path ≤ vec_len l.fn.path + l._step;
  room : vec_capacity l.path ≡ vec_capacity l.fn.path;
}
