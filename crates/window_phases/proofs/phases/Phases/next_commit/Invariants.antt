use Rattle.std.proofs.Common.{◌≡◌, ◌<◌, ℕ, true}
use Rattle.cascade_laws.specs.Turns.{can_commit}
use Rattle.window_phases.proofs.phases.Phases.next_commit.Given as goal

abbrev pub invariant-loop-window : goal.invariant-loop-window
invariant-loop-window l = (y : ℕ) → y < l.window → ¬ (can_commit l.self.book l.self.done y ≡ true)
