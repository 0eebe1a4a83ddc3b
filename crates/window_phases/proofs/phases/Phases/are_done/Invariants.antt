use Rattle.std.proofs.Common.{◌≡◌, true, take}
use Rattle.std.specs.List.{list_all}
use Rattle.cascade_laws.specs.Turns.{flag}
use Rattle.window_phases.proofs.phases.Phases.are_done.Given as goal

abbrev pub invariant-loop-window : goal.invariant-loop-window
invariant-loop-window l = list_all (flag l.self.done) (take l.window-index l.windows) ≡ true
