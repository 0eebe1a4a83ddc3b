use Rattle.std.proofs.Common.{◌++◌, ◌∙◌, ap}
use Rattle.std.proofs.lemmas.Result.{on_ok_weaker}
use Rattle.report_model.specs.Outcomes.{frames_where_done, trace_where_asked}
use Rattle.report_model.specs.Texts.{summary_of}
use Rattle.run_report.specs.Names.{printed_names}
use Rattle.run_report.specs.Reports.{steps_of, traced}
use Rattle.run_report.proofs.Joined.{all_to_end}
use Rattle.run_report.proofs.report.write_after_log.Goals as goal

pub returns : goal.returns
returns c =
    let core = c.args.core.now in
    let names = printed_names c.args.observables.now in
    let trace = trace_where_asked core.task c.args.labels.now (traced c.args.trace core) in
    on_ok_weaker c.write_summary.result
    (λ e s fits before log was.
    let frames = frames_where_done core.task s names (steps_of core) in
    let summary = summary_of core.task s (steps_of core) in
    e s fits
    ∙ ap (λ t. t ++ summary) (c.in_ok-write_frames_where_done.ensures s fits)
    ∙ ap (λ t. (t ++ frames) ++ summary) c.in_ok-write_trace_where_asked.ensures
    ∙ ap (λ t. ((t ++ trace) ++ frames) ++ summary) was
    ∙ all_to_end before log trace frames summary)
    c.write_summary.ensures
