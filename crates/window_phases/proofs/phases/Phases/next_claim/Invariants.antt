use Rattle.std.proofs.Common.{◌≡◌, ◌<◌, ℕ, true}
use Rattle.cascade_laws.specs.Turns.{can_claim_in}
use Rattle.window_phases.proofs.phases.Phases.next_claim.Given as goal

abbrev pub invariant-loop-window : goal.invariant-loop-window
invariant-loop-window l = (y : ℕ) → y < l.window →
    ¬ (can_claim_in l.plan.plan l.self.book.retries l.arrived l.self.book l.self.done y ≡ true)
