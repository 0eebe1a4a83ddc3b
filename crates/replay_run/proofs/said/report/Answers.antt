use Rattle.std.proofs.Common.{◌++◌, None, ap, ◌∙◌}
use Rattle.report_model.specs.Outcomes.{output_of}
use Rattle.run_report.specs.Names.{printed_names}
use Rattle.run_report.specs.Reports.{steps_of}
use Rattle.replay_run.proofs.said.report.Goals as goal

pub returns : goal.returns
returns c s fits =
    c.in_ok-write_report.ensures s fits
    ∙ ap (λ t. t ++ output_of c.args.core.now.task s c.args.labels.now
    (printed_names c.args.observables.now) (steps_of c.args.core.now) None None)
    (c.in_ok-push_str.ensures.bytes ∙ ap (λ t. t ++ c.args.printed.now) c.new-text.ensures.bytes)
