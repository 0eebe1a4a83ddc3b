use Rattle.std.proofs.Common.{◌≡◌, Some, refl, subst}
use Rattle.window_model.specs.Speculation.{Committed}
use Rattle.cascade_laws.specs.Turns.{IsClaimTurn, IsCompareTurn}
use Rattle.core_state.specs.States.{CoreTable, machine_of}
use Rattle.window_core.specs.Cores.{IsNext, NoTurn}
use Rattle.window_core.proofs.Equipped.{none_left}
use Rattle.window_core.proofs.machine.Core.turn.Goals as goal

pub compare-requires : goal.compare-requires
compare-requires g c =
    subst (λ (t : CoreTable). IsCompareTurn t.task t.retries (machine_of t)
    (Some (c.in-Some-next_comparison.window, c.in-Some-next_comparison.source))) c.self.view_is
    (c.in-Some-next_comparison.ensures)

pub commit-requires : goal.commit-requires
commit-requires g c =
    let found = c.in-Some-next_commit.ensures in
    subst (λ (t : CoreTable). IsNext t (Committed c.in-Some-next_commit.ticket
    c.in-Some-next_commit.window)) c.self.view_is (record { may = found.0; first = found.1 })

pub claim-requires : goal.claim-requires
claim-requires g c =
    subst (λ (t : CoreTable). IsClaimTurn t.task t.retries (machine_of t)
    (Some c.in-Some-next_claim.window)) c.self.view_is (c.in-Some-next_claim.ensures)

pub returns-then-all_done : goal.returns-then-all_done
returns-then-all_done g c = (
  refl,
  subst NoTurn c.self.view_is (none_left _ _ _ (c.in_default.ensures)
      (c.in_default-next_comparison.ensures) (c.in_default-next_commit.ensures)
      (c.in_default-next_release.ensures) (c.in_default-next_claim.ensures)),
  c.all_done.ensures.yes c.if-all_done.true,
)

pub returns-else-all_done : goal.returns-else-all_done
returns-else-all_done g c = (
  refl,
  subst NoTurn c.self.view_is (none_left _ _ _ (c.in_default.ensures)
      (c.in_default-next_comparison.ensures) (c.in_default-next_commit.ensures)
      (c.in_default-next_release.ensures) (c.in_default-next_claim.ensures)),
  c.all_done.ensures.no c.if-all_done.false,
)
