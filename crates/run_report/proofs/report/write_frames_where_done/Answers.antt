use Rattle.std.proofs.Common.{[], ◌++◌, ◌∙◌, ap, cond, string_bytes}
use Rattle.std.proofs.lemmas.Result.{on_ok_weaker}
use Rattle.report_model.specs.Texts.{frames_of}
use Rattle.run_report.specs.Names.{printed_names}
use Rattle.run_report.specs.Reports.{steps_of}
use Rattle.run_report.proofs.report.write_frames_where_done.Goals as goal

pub write_frames-requires-clause-arrived : goal.write_frames-requires-clause-arrived
write_frames-requires-clause-arrived c = c.is_all_done.ensures.arrived c.if-is_all_done.true

pub returns-then-is_all_done : goal.returns-then-is_all_done
returns-then-is_all_done c =
    let core = c.args.core.now in
    on_ok_weaker c.write_frames.result
    (λ e s fits. e s fits ∙ ap (λ b. string_bytes c.args.text.now
    ++ cond b (frames_of core.task s (printed_names c.args.observables.now) (steps_of core)) [])
    c.if-is_all_done.ensures.value)
    c.write_frames.ensures
