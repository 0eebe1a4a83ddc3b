use Rattle.std.proofs.Common.{◌≡◌, true, take}
use Rattle.std.specs.List.{list_all}
use Rattle.cascade_laws.specs.Turns.{is_based}
use Rattle.window_phases.proofs.phases.Phases.rests_on_done.Given as goal

abbrev pub invariant-loop-support : goal.invariant-loop-support
invariant-loop-support l =
    list_all (is_based l.self.book l.self.done) (take l.support-index l.support-items) ≡ true
