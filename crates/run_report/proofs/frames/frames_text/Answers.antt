use Rattle.std.proofs.Common.{◌++◌, ◌∙◌, ap}
use Rattle.report_model.specs.Texts.{frames_of}
use Rattle.run_report.specs.Names.{printed_names}
use Rattle.run_report.specs.Reports.{steps_of}
use Rattle.run_report.proofs.frames.frames_text.Goals as goal

pub returns : goal.returns
returns c s fits =
    c.in_ok-write_frames.ensures s fits
    ∙ ap (λ t. t ++ frames_of c.args.core.now.task s (printed_names c.args.observables.now)
    (steps_of c.args.core.now)) c.new-text.ensures.bytes
