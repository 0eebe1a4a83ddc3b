use Rattle.std.proofs.Common.{◌<◌, is_some, sym, ap, ◌∙◌, subst}
use Rattle.window_model.specs.Decoder.{Task}
use Rattle.window_model.specs.Windows.{window_count}
use Rattle.run_report.specs.Reports.{decoder_in}
use Rattle.run_report.proofs.Cores.{kept_is}
use Rattle.run_report.proofs.Ranges.{all_more, not_all}
use Rattle.run_report.proofs.done.are_committed.Goals as goal

pub returns-then-not-is_done : goal.returns-then-not-is_done
returns-then-not-is_done c =
    let core = c.args.core.now in
    let w = c.loop-window.window in
    sym (not_all (λ x. is_some ((decoder_in core).kept x)) (window_count core.task.plan) w
    (subst (λ n. w < n) (c.window_count-window-end.ensures
    ∙ ap (λ (t : Task). window_count t.plan) c.setting.ensures) c.loop-window-test.true)
    (sym (kept_is core w) ∙ sym c.is_done.ensures ∙ c.if-not-is_done.true))

pub loop-window-preserved : goal.loop-window-preserved
loop-window-preserved c =
    let core = c.args.core.now in
    let w = c.loop-window.window in
    all_more (λ x. is_some ((decoder_in core).kept x)) w c.loop-window.invariant
    (sym (kept_is core w) ∙ sym c.is_done.ensures ∙ c.if-not-is_done.false)
