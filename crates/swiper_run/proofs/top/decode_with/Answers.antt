use Rattle.std.proofs.Common.{◌++◌, [], List, Some, refl, ◌∙◌, sym, ap, subst, arith, append-nil}
use Rattle.port_io.specs.Traffic.{Goes, taken}
use Rattle.port_io.specs.declared.port.TapeByte.{TapeByte}
use Rattle.port_io.proofs.Traffic.{goes_nothing}
use Rattle.surface_model.specs.Parse.{schedule_of}
use Rattle.surface_model.specs.Schedules.{Schedule}
use Rattle.report_model.specs.Tasks.{labels_of, names_of, task_of}
use Rattle.run_rounds.specs.Slots.{At}
use Rattle.swiper_run.specs.declared.top.Status.TheVariants.{Memory}
use Rattle.swiper_run.specs.declared.words.Asked.TheVariants.{Decode}
use Rattle.swiper_run.specs.Answers.{IsAnswerBy, Tells}
use Rattle.decode_rounds.specs.Courses.{IsBrokenOff, IsReadThrough}
use Rattle.decode_rounds.proofs.Courses.{rose_until}
use Rattle.swiper_run.proofs.Concluding.{nothing_put, status_read}
use Rattle.swiper_run.proofs.Deciding.{broken_answer, told_answer}
use Rattle.swiper_run.proofs.Numbering.{few_lines}
use Rattle.swiper_run.proofs.top.decode_with.Goals as goal

abbrev at_first : Schedule → At
at_first s = record { schedule = s; slot = 0; before = [] }

pub new-requires-clause-lines : goal.new-requires-clause-lines
new-requires-clause-lines g c =
    let lines = few_lines c.requires.opened.0 in
    let sized = c.headed.ensures.sized c.requires.opened.0 c.requires.opened.1 in
    let same = ap (λ s. s.rounds_line) c.requires.opened.2.program_is in
    omega (arith, lines, sized.1, same)

pub returns-in_default-clause-answer : goal.returns-in_default-clause-answer
returns-in_default-clause-answer g c header input is opened told =
    let reads = g.P.Port.read_faults c.args.port.now in (
      [],
      goes_nothing _ _,
      subst (IsAnswerBy (g.Q.Predictor.may_guess c.args.predictor.now)
          (Some (Decode c.args.work.now.options)) (g.P.Port.left c.args.port.now) reads reads
          Memory)
          (sym (append-nil (taken header)))
          (nothing_put (g.Q.Predictor.may_guess c.args.predictor.now)
          (Decode c.args.work.now.options) (g.P.Port.left c.args.port.now) reads reads header),
    )

pub read_rounds-requires-clause-begun : goal.read_rounds-requires-clause-begun
read_rounds-requires-clause-begun g c _ _ =
    let opened = c.requires.opened.2 in
    let schedule = ap (λ (at : At). at.schedule) c.in-Ok.ensures in
    record {
      task_is = (
        opened.plan,
        opened.task_is ∙ ap (λ s. task_of s opened.plan) (sym (schedule ∙ opened.program_is)),
      );
      at_start = c.in-Ok.ensures ∙ ap at_first (sym schedule);
    }

pub put_report-requires-clause-task : goal.put_report-requires-clause-task
put_report-requires-clause-task g c =
    let opened = c.requires.opened.2 in (
      opened.plan,
      c.in-Ok-read_rounds.ensures.task ∙ opened.task_is
          ∙ ap (λ s. task_of s opened.plan) (sym opened.program_is),
    )

pub returns-in-Ok-read_rounds-clause-answer : goal.returns-in-Ok-read_rounds-clause-answer
returns-in-Ok-read_rounds-clause-answer g c header input is opened told =
    let d = c.in-Ok-read_rounds.rounds.decoder in
    let m = d.progress in
    let end = c.in-Ok-read_rounds.rounds.end in
    let options = c.args.work.now.options in
    let schedule = ap (λ (at : At). at.schedule) c.in-Ok.ensures ∙ opened.program_is in
    let task = opened.task_is in
    let through =
    subst (λ k. IsReadThrough (schedule_of header) k (g.P.Port.left c.args.port.now)
    (g.P.Port.left c.read_rounds.new.port) (g.P.Port.tape c.args.port.now)
    (g.P.Port.tape c.read_rounds.new.port) m end) task
    (subst (λ s. IsReadThrough s c.args.setting
    (g.P.Port.left c.args.port.now) (g.P.Port.left c.read_rounds.new.port)
    (g.P.Port.tape c.args.port.now) (g.P.Port.tape c.read_rounds.new.port) m end) schedule
    (c.in-Ok-read_rounds.ensures.read input told)) in
    let tells =
    subst (λ p. Tells (labels_of p) (names_of p) d options end c.put_report.result
    (g.P.Port.left c.read_rounds.new.port) (g.P.Port.left c.put_report.new.port)
    (g.P.Port.tape c.read_rounds.new.port) (g.P.Port.tape c.put_report.new.port)) opened.program_is
    c.put_report.ensures.said in
    let reads = g.P.Port.read_faults c.args.port.now in
    let reads_now = g.P.Port.read_faults c.put_report.new.port in
    told_answer c.released.ensures (g.Q.Predictor.may_guess c.args.predictor.now)
    options header opened.plan is opened.accepted d (c.in-Ok-read_rounds.ensures.task
    ∙ task) c.is_progress.ensures.progress c.is_complete.ensures c.is_history.ensures
    c.in-Ok-read_rounds.ensures.retries c.in-Ok-read_rounds.ensures.guessed end _ _ _ _
    through reads reads_now c.put_report.result _ _ c.put_report.ensures.left
    (λ e. rose_until reads (g.P.Port.read_faults c.read_rounds.new.port) reads_now
    (c.in-Ok-read_rounds.ensures.fault (status_read end e)) c.put_report.ensures.counts.0)
    tells

pub returns-in-Err-clause-answer : goal.returns-in-Err-clause-answer
returns-in-Err-clause-answer g c header input is opened told =
    let error = c.in-Err.error in
    let schedule = ap (λ (at : At). at.schedule) c.in-Ok.ensures ∙ opened.program_is in
    let task = opened.task_is in
    let reads = g.P.Port.read_faults c.args.port.now in
    let reads_now = g.P.Port.read_faults c.read_rounds.new.port in
    let broken =
    subst (λ k. IsBrokenOff (schedule_of header) k error (g.P.Port.left c.args.port.now)
    (g.P.Port.left c.read_rounds.new.port) (g.P.Port.tape c.args.port.now)
    (g.P.Port.tape c.read_rounds.new.port)) task
    (subst (λ s. IsBrokenOff s c.args.setting error (g.P.Port.left c.args.port.now)
    (g.P.Port.left c.read_rounds.new.port) (g.P.Port.tape c.args.port.now)
    (g.P.Port.tape c.read_rounds.new.port)) schedule (c.in-Err.ensures.broken input told)) in
    subst (λ k. (ran : List TapeByte)
    × Goes ran (g.P.Port.left c.args.port.now) (g.P.Port.left c.read_rounds.new.port)
    (g.P.Port.tape c.args.port.now) (g.P.Port.tape c.read_rounds.new.port)
    × IsAnswerBy (g.Q.Predictor.may_guess c.args.predictor.now)
    (Some (Decode c.args.work.now.options)) (g.P.Port.left c.read_rounds.new.port) reads reads_now k
    (taken header ++ ran))
    (sym c.status_of_stop.ensures)
    (broken_answer (g.Q.Predictor.may_guess c.args.predictor.now) c.args.work.now.options header
    opened.plan reads reads_now error _ _ _ _ is opened.accepted broken)
