use Rattle.std.proofs.Common.{◌≡◌}
use Rattle.window_plan.specs.Searches.{IsLevel}
use Rattle.window_plan.proofs.search.reach_all.Given as goal

abbrev pub invariant-loop-level : goal.invariant-loop-level
invariant-loop-level l = record {
  bound : l.found.bound ≡ l.fn.found.bound;
  level : IsLevel l.view.graph l.view.homes l.view.window l.level l.from l.found.members;
}
