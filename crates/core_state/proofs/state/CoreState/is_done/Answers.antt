use Rattle.std.proofs.Common.{◌≡◌, ◌<◌, sym, ◌∙◌, subst}
use Rattle.core_state.specs.States.{CoreTable, machine_of}
use Rattle.window_model.specs.Windows.{window_count}
use Rattle.cascade_laws.specs.Turns.{is_done}
use Rattle.core_state.proofs.state.CoreState.is_done.Goals as goal

pub returns : goal.returns
returns c =
    subst (λ (t : CoreTable). c.is_done.result ≡ is_done ((machine_of t).phase c.args.window))
    c.self.view_is
    (c.is_done.ensures ∙ c.self.invariant.phases.done.flags c.args.window
    (subst (λ (t : CoreTable). c.args.window < window_count t.task.plan) (sym c.self.view_is)
    c.requires))
