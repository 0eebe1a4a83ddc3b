use Rattle.std.proofs.Common.{◌≡◌, ◌<◌, ◌≤◌, ◌+◌, length, sym, ap, ◌∙◌, subst, count_by, arith}
use Rattle.core_state.specs.States.{CoreTable, events_of}
use Rattle.window_model.specs.SpeculationLaws.{is_claim_of}
use Rattle.window_model.specs.Windows.{window_count}
use Rattle.poison_cascade.specs.Books.{TicketBook, entry_at}
use Rattle.core_state.proofs.Told.{has_entry}
use Rattle.core_state.proofs.state.CoreState.claims.Goals as goal

pub taken-requires : goal.taken-requires
taken-requires c =
    subst (λ (b : TicketBook). c.args.window < length b.windows) (sym c.book.ensures)
    (has_entry _ c.self.invariant c.args.window
    (subst (λ (t : CoreTable). c.args.window < window_count t.task.plan) (sym c.self.view_is)
    c.requires))

pub returns-clause-value : goal.returns-clause-value
returns-clause-value c =
    subst (λ (t : CoreTable). c.taken.result ≡ count_by (is_claim_of c.args.window) (events_of t))
    c.self.view_is
    (c.taken.ensures.value
    ∙ ap (λ (b : TicketBook). (entry_at b c.args.window).taken) c.book.ensures
    ∙ c.self.invariant.phases.book.claimed c.args.window
    (subst (λ (t : CoreTable). c.args.window < window_count t.task.plan) (sym c.self.view_is)
    c.requires))

pub returns-clause-few : goal.returns-clause-few
returns-clause-few c =
    subst (λ (t : CoreTable). c.taken.result ≤ t.retries + 1) c.self.view_is
    (let few = c.taken.ensures.few in
    let same = ap (λ (b : TicketBook). b.retries) c.book.ensures in
    let are = c.self.invariant.phases.book.retries_are in omega (arith, few, same, are))
