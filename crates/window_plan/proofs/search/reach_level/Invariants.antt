use Rattle.std.proofs.Common.{◌≡◌, ◌≤◌, ◌&&◌, take, drop}
use Rattle.std.specs.Prelude.{nat_le}
use Rattle.std.specs.List.{list_any}
use Rattle.window_model.specs.Windows.{home_of}
use Rattle.window_plan.specs.Searches.{Grows, is_beside}
use Rattle.window_plan.proofs.search.reach_level.Given as goal

abbrev pub invariant-loop-place : goal.invariant-loop-place
invariant-loop-place l = record {
  bound : l.found.bound ≡ l.fn.found.bound;
  past : l.from ≤ l.place;
  grows : Grows (λ x. list_any (λ u. is_beside l.view.graph u x)
      (drop l.from (take l.place l.fn.found.members)) && nat_le l.view.window
      (home_of l.view.homes x)) l.fn.found.members l.found.members;
}
