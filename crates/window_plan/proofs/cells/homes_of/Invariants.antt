use Rattle.std.proofs.Common.{◌≡◌, ◌≤◌, ◌-◌, length, map, take, slice_get, Some}
use Rattle.window_plan.specs.Kinds.{order_of}
use Rattle.window_plan.specs.Ranks.{tag_key}
use Rattle.window_plan.proofs.cells.homes_of.Given as goal

abbrev pub invariant-loop-tag : goal.invariant-loop-tag
invariant-loop-tag l = record {
  place : l.place ≤ length l.ranks - 1;
  homes : map (slice_get l.ranks) l.homes.items
      ≡ map (λ tag. Some (tag_key (order_of l.kind) l.commit tag)) (take l.tag-index l.tags);
}
