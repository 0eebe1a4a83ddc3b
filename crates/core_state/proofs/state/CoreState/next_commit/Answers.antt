use Rattle.std.proofs.Common.{◌≡◌, true, Some, sym, ap, ◌∙◌, subst}
use Rattle.window_model.specs.TurnLaws.{NoCommit, NoComparison, NoDrop}
use Rattle.poison_cascade.specs.Books.{IsLeast, TicketBook, standing}
use Rattle.cascade_laws.specs.Turns.{can_commit}
use Rattle.core_state.specs.States.{CoreTable, IsCommitFound, machine_of}
use Rattle.core_state.proofs.Turns.{commit_found, none_to_commit}
use Rattle.core_state.proofs.state.CoreState.next_commit.Goals as goal

pub returns-in_err-window : goal.returns-in_err-window
returns-in_err-window c =
    rw c.from_residual.ensures
    (subst (λ (t : CoreTable). NoCommit t.task (machine_of t)) c.self.view_is
    (none_to_commit _ c.self.invariant (subst (λ (t : CoreTable). NoDrop (machine_of t))
    (sym c.self.view_is) c.requires.drop) (subst (λ (t : CoreTable). NoComparison t.task
    (machine_of t)) (sym c.self.view_is) c.requires.comparison) c.in_err-window.ensures))

pub returns : goal.returns
returns c =
    let phases = c.self.inside.phases in
    subst (λ (t : CoreTable). IsCommitFound t.task t.retries (machine_of t)
    (Some (c.in_ok-ticket.ticket, c.in_ok-window.window))) c.self.view_is
    (commit_found _ c.self.invariant c.in_ok-window.window c.in_ok-ticket.ticket
    (subst (λ (t : CoreTable). NoDrop (machine_of t)) (sym c.self.view_is) c.requires.drop)
    (subst (λ (t : CoreTable). NoComparison t.task (machine_of t)) (sym c.self.view_is)
    c.requires.comparison)
    (subst (IsLeast (λ w. can_commit phases.book phases.done w ≡ true)) c.in_ok-window.was
    c.next_commit.ensures)
    (ap (λ (b : TicketBook). standing b c.in_ok-window.window) (sym c.book.ensures)
    ∙ sym c.standing.ensures ∙ c.in_ok-ticket.was))
