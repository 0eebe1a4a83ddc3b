use Rattle.std.proofs.Common.{◌≡◌, ◌<◌, length, sym, ap, ◌∙◌, subst}
use Rattle.core_state.specs.States.{CoreTable, machine_of, running_of}
use Rattle.window_model.specs.Windows.{window_count}
use Rattle.poison_cascade.specs.Books.{TicketBook, entry_at}
use Rattle.poison_cascade.specs.Running.{running_of as runs_in}
use Rattle.core_state.proofs.Told.{has_entry, runs_at}
use Rattle.core_state.proofs.state.CoreState.running_in.Goals as goal

pub running-requires : goal.running-requires
running-requires c =
    subst (λ (b : TicketBook). c.args.window < length b.windows) (sym c.book.ensures)
    (has_entry _ c.self.invariant c.args.window
    (subst (λ (t : CoreTable). c.args.window < window_count t.task.plan) (sym c.self.view_is)
    c.requires))

pub returns : goal.returns
returns c =
    subst (λ (t : CoreTable). c.running.result ≡ running_of ((machine_of t).phase c.args.window))
    c.self.view_is
    (c.running.ensures
    ∙ ap (λ (b : TicketBook). runs_in (entry_at b c.args.window).live) c.book.ensures
    ∙ runs_at _ c.self.invariant c.args.window
    (subst (λ (t : CoreTable). c.args.window < window_count t.task.plan) (sym c.self.view_is)
    c.requires))
