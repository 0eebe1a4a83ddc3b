use Rattle.std.proofs.Common.{◌≡◌, ◌<◌, true, sym, ap, ◌∙◌, subst}
use Rattle.window_model.specs.Decoder.{Task}
use Rattle.window_model.specs.TurnLaws.{NoCommit, NoComparison, NoDrop, NoRelease}
use Rattle.window_model.specs.Windows.{WindowPlan, window_count}
use Rattle.poison_cascade.specs.Books.{IsLeast}
use Rattle.cascade_laws.specs.Turns.{IsClaimTurn, can_claim_in}
use Rattle.window_phases.specs.Phases.{IsOfPlan}
use Rattle.core_state.specs.States.{CoreTable, machine_of}
use Rattle.core_state.proofs.Turns.{claim_found, of_plan}
use Rattle.core_state.proofs.state.CoreState.next_claim.Goals as goal

pub next_claim-requires : goal.next_claim-requires
next_claim-requires c =
    subst (λ (plan : WindowPlan). IsOfPlan plan c.self.inside.phases.book)
    (sym (ap (λ (t : Task). t.plan) (c.given.view_is ∙ c.setting-given.ensures)))
    (of_plan _ c.self.invariant)

pub returns : goal.returns
returns c =
    let s = c.self.inside in
    subst (λ (t : CoreTable). IsClaimTurn t.task t.retries (machine_of t) c.next_claim.result)
    c.self.view_is
    (claim_found _ c.self.invariant c.next_claim.result
    (subst (λ (t : CoreTable). NoDrop (machine_of t)) (sym c.self.view_is) c.requires.drop)
    (subst (λ (t : CoreTable). NoComparison t.task (machine_of t)) (sym c.self.view_is)
    c.requires.comparison)
    (subst (λ (t : CoreTable). NoCommit t.task (machine_of t)) (sym c.self.view_is)
    c.requires.commit)
    (subst (λ (t : CoreTable). NoRelease t.task (machine_of t)) (sym c.self.view_is)
    c.requires.release)
    (subst (λ (plan : WindowPlan). IsLeast (λ w. (w < window_count plan) × (can_claim_in plan
    s.phases.book.retries s.arrived s.phases.book s.phases.done w ≡ true)) c.next_claim.result)
    (ap (λ (t : Task). t.plan) (c.given.view_is ∙ c.setting-given.ensures)) c.next_claim.ensures))
