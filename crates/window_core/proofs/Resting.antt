-- When a core is at rest: nothing runs, and no turn is left.
use Rattle.std.proofs.Common.{◌≡◌, ◌≢◌, ℕ, ◌<◌, false, true, Some, is_some, refl, ap, ◌∙◌, subst, sym}
use Rattle.std.proofs.lemmas.Bool.{false≢true}
use Rattle.window_model.specs.Speculation.{Phase, Waiting, Running, Held, Done, Claimed, Verified, Poisoned, Dropped, Committed, Released, Compares, held_by}
use Rattle.window_model.specs.Windows.{window_count}
use Rattle.cascade_laws.specs.Turns.{IsClaimTurn, IsCompareTurn, IsDropTurn}
use Rattle.core_state.specs.States.{CoreTable, IsCommitFound, IsReleaseFound, IsState, machine_of, running_of}
use Rattle.window_core.specs.Cores.{NoTurn}
use Rattle.window_core.proofs.Awaited.{covered, sound}

-- what a window runs
pub runs_not : (phase : Phase) (k : ℕ) → is_some (running_of phase) ≡ false → phase ≡ Running k → ⊥
runs_not phase k none runs = false≢true (sym none ∙ ap (λ p. is_some (running_of p)) runs)

pub runs_some : (phase : Phase) → is_some (running_of phase) ≡ true →
    ((k : ℕ) → phase ≢ Running k) → ⊥
runs_some Waiting e none = false≢true e
runs_some (Running k) e none = none k refl
runs_some (Held k) e none = false≢true e
runs_some (Done k) e none = false≢true e

-- a window that runs a ticket is one of the plan's
pub runs_within : (c : CoreTable) → IsState c → (w k : ℕ) → (machine_of c).phase w ≡ Running k →
    w < window_count c.task.plan
runs_within c h w k runs =
    let own = (sound c h).current w k (ap held_by runs) in
    subst (λ v. v < window_count c.task.plan) own.1 (covered c h k own.0).in_range

-- what a scan found can be done
module _ (c : CoreTable) (none : NoTurn c) where
  pub no_drop : (w : ℕ) → IsDropTurn c.task c.retries (machine_of c) (Some w) → ⊥
  no_drop w found = none (Dropped w) (λ e. absurd cc) found.0

  pub no_comparison : (pair : ℕ × ℕ) → IsCompareTurn c.task c.retries (machine_of c) (Some pair) → ⊥
  no_comparison pair found =
      let can = found.0 in
      none (Poisoned pair.1 pair.0) (λ e. absurd cc) (
        can.0,
        can.1,
        can.2,
        λ same. none (Verified pair.1 pair.0) (λ e. absurd cc) (
          can.1,
          subst (λ g. Compares c.task (machine_of c) pair.1 pair.0 g can.1) same can.2,
        ),
      )

  pub no_commit : (pair : ℕ × ℕ) → IsCommitFound c.task c.retries (machine_of c) (Some pair) → ⊥
  no_commit pair found = none (Committed pair.0 pair.1) (λ e. absurd cc) found.0

  pub no_release : (op : ℕ) → IsReleaseFound c.task c.retries (machine_of c) (Some op) → ⊥
  no_release op found = none (Released op found.0) (λ e. absurd cc) found.1

  pub no_claim : (w : ℕ) → IsClaimTurn c.task c.retries (machine_of c) (Some w) → ⊥
  no_claim w found =
      let can = found.0 in none (Claimed can.0 w can.1) (λ e. absurd cc) can.2
