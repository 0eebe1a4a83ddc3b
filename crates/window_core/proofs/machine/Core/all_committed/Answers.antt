use Rattle.std.proofs.Common.{◌≡◌, ◌<◌, arith, IsSome, sym, ap, ◌∙◌, subst}
use Rattle.window_model.specs.Decoder.{Task}
use Rattle.window_model.specs.Speculation.{done}
use Rattle.window_model.specs.Windows.{window_count}
use Rattle.cascade_laws.specs.Turns.{is_done}
use Rattle.core_state.specs.States.{CoreTable, machine_of}
use Rattle.window_core.proofs.Everywhere.{done_none, done_some, one_further}
use Rattle.window_core.proofs.machine.Core.all_committed.Goals as goal

pub returns-then-not-is_done-clause-no : goal.returns-then-not-is_done-clause-no
returns-then-not-is_done-clause-no c _ all =
    let here = subst (λ (t : CoreTable). c.is_done.result
    ≡ is_done ((machine_of t).phase c.loop-window.window)) c.self.view_is c.is_done.ensures in
    done_none _ (sym here ∙ c.if-not-is_done.true) (all c.loop-window.window
    (subst (λ n. c.loop-window.window < n) (c.window_count-window-end.ensures
    ∙ ap (λ (t : Task). window_count t.plan) c.setting.ensures) c.loop-window-test.true))

pub loop-window-preserved : goal.loop-window-preserved
loop-window-preserved c =
    let here = subst (λ (t : CoreTable). c.is_done.result
    ≡ is_done ((machine_of t).phase c.loop-window.window)) c.self.view_is c.is_done.ensures in
    one_further (λ w. IsSome (done ((machine_of c.args.self.now).phase w))) c.loop-window.window
    c.loop-window.invariant (done_some _ (sym here ∙ c.if-not-is_done.false))

pub returns-clause-yes : goal.returns-clause-yes
returns-clause-yes c _ w l =
    let count = c.window_count-window-end.ensures
    ∙ ap (λ (t : Task). window_count t.plan) c.setting.ensures in
    let over = c.loop-window-test.false in
    c.loop-window.invariant w (omega (arith, l, count, over))
