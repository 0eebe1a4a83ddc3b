use Rattle.std.proofs.Common.{◌≡◌, ◌≢◌, ◌<◌, ℕ, arith, is_some, sym, ap, ◌∙◌, subst}
use Rattle.window_model.specs.Decoder.{Task}
use Rattle.window_model.specs.Speculation.{Running}
use Rattle.window_model.specs.Windows.{window_count}
use Rattle.core_state.specs.States.{machine_of}
use Rattle.window_core.proofs.Everywhere.{one_further}
use Rattle.window_core.proofs.Resting.{runs_not, runs_some, runs_within}
use Rattle.window_core.proofs.quiet.runs.Goals as goal

pub returns-then-is_some-clause-yes : goal.returns-then-is_some-clause-yes
returns-then-is_some-clause-yes c _ none =
    runs_some ((machine_of c.args.state.now).phase c.loop-window.window)
    (sym (ap is_some c.running_in.ensures) ∙ sym (c.if-is_some.ensures)) (none c.loop-window.window)

pub loop-window-preserved : goal.loop-window-preserved
loop-window-preserved c =
    one_further (λ w. (k : ℕ) → (machine_of c.args.state.now).phase w ≢ Running k)
    c.loop-window.window
    c.loop-window.invariant
    (λ k. runs_not _ k (sym (ap is_some c.running_in.ensures) ∙ sym (c.if-is_some.ensures)))

pub returns-clause-no : goal.returns-clause-no
returns-clause-no c _ w k runs =
    let count = c.window_count-window-end.ensures
    ∙ ap (λ (t : Task). window_count t.plan) c.setting.ensures in
    let over = c.loop-window-test.false in
    let within = runs_within c.args.state.now c.is_state.ensures w k runs in
    c.loop-window.invariant w (omega (arith, within, count, over)) k runs
