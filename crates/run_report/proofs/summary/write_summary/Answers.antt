use Rattle.std.proofs.Common.{◌++◌, ◌∙◌, sym, ap, string_bytes}
use Rattle.std.proofs.lemmas.Result.{on_ok_weaker}
use Rattle.report_model.specs.Texts.{defects_in, summary_line}
use Rattle.window_model.specs.Decoder.{Decoder, Task}
use Rattle.window_model.specs.Windows.{window_count}
use Rattle.run_report.proofs.Cores.{decoder_is}
use Rattle.run_report.proofs.Joined.{counts_same}
use Rattle.run_report.proofs.summary.write_summary.Goals as goal

pub returns : goal.returns
returns c =
    let all = c.committed-all.ensures in
    let task = c.args.core.now.task in
    on_ok_weaker c.write_totals.result
    (λ e s fits.
    e ∙ counts_same (string_bytes c.args.text.now) (c.window_count.ensures ∙ ap (λ (t : Task).
    window_count t.plan) c.setting.ensures) all.windows
    (c.defects.ensures s fits) all.edges all.weight
    ∙ ap (λ (d : Decoder). string_bytes c.args.text.now
    ++ summary_line task (defects_in task s d.arrived) d)
    (sym (decoder_is c.args.core.now c.is_state.ensures)))
    c.write_totals.ensures
