use Rattle.std.proofs.Common.{◌≡◌, ap, ◌∙◌, subst}
use Rattle.core_state.specs.States.{CoreTable, machine_of}
use Rattle.window_model.specs.Speculation.{standing}
use Rattle.poison_cascade.specs.Books.{standing as stands_at}
use Rattle.core_state.proofs.Told.{stands}
use Rattle.core_state.proofs.state.CoreState.standing.Goals as goal

pub returns : goal.returns
returns c =
    subst (λ (t : CoreTable). c.standing.result ≡ standing ((machine_of t).phase c.args.window))
    c.self.view_is
    (c.standing.ensures ∙ ap (λ b. stands_at b c.args.window) c.book.ensures
    ∙ stands _ c.self.invariant c.args.window)
