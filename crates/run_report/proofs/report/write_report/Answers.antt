use Rattle.std.proofs.Common.{string_bytes}
use Rattle.std.proofs.lemmas.Result.{on_ok_weaker}
use Rattle.report_model.specs.Texts.{log_of}
use Rattle.run_report.specs.Reports.{steps_of}
use Rattle.run_report.proofs.report.write_report.Goals as goal

pub returns : goal.returns
returns c =
    on_ok_weaker c.write_after_log.result
    (λ e s fits.
    e s fits (string_bytes c.args.text.now) (log_of c.args.labels.now (steps_of c.args.core.now))
    c.in_ok-write_log.ensures)
    c.write_after_log.ensures
