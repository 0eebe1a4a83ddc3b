use Rattle.std.proofs.Common.{◌<◌, is_some, length, sym, ap, ◌∙◌, subst}
use Rattle.window_model.specs.Decoder.{Task}
use Rattle.run_report.specs.Reports.{decoder_in}
use Rattle.run_report.proofs.Ranges.{all_more, not_all}
use Rattle.run_report.proofs.done.are_released.Goals as goal

pub returns-then-is_none : goal.returns-then-is_none
returns-then-is_none c =
    let core = c.args.core.now in
    let op = c.loop-op.op in
    sym (not_all (λ x. is_some ((decoder_in core).released x)) (length core.task.operations) op
    (subst (λ n. op < n) (c.operation_count-op-end.ensures
    ∙ ap (λ (t : Task). length t.operations) c.setting.ensures) c.loop-op-test.true)
    (ap is_some (sym c.released.ensures) ∙ c.if-is_none.ensures))

pub loop-op-preserved : goal.loop-op-preserved
loop-op-preserved c =
    let core = c.args.core.now in
    all_more (λ x. is_some ((decoder_in core).released x)) c.loop-op.op c.loop-op.invariant
    (ap is_some (sym c.released.ensures) ∙ c.if-is_none.ensures)
