use Rattle.std.proofs.Common.{◌++◌, [], Some, ◌∙◌, sym, ap, subst, arith, append-nil}
use Rattle.port_io.specs.Port.{Rose}
use Rattle.port_io.specs.Traffic.{taken}
use Rattle.port_io.proofs.Traffic.{goes_nothing}
use Rattle.report_model.specs.Tasks.{task_of}
use Rattle.run_rounds.specs.Slots.{At}
use Rattle.replay_run.specs.Answers.{IsAnswered}
use Rattle.replay_run.specs.Replies.{IsReplied, Subject}
use Rattle.swiper_run.specs.Answers.{IsAnswerTo, guesses_of, is_of_replay}
use Rattle.swiper_run.specs.declared.top.Status.TheVariants as ends
use Rattle.swiper_run.specs.declared.words.Asked.TheVariants.{Replay}
use Rattle.swiper_run.proofs.Concluding.{nothing_put}
use Rattle.swiper_run.proofs.Numbering.{few_lines}
use Rattle.swiper_run.proofs.Replaying.{replay_answer, reply_accepted, reply_read, reply_written, subject_is}
use Rattle.swiper_run.proofs.replay.put_replay.Goals as goal

pub new-requires-clause-lines : goal.new-requires-clause-lines
new-requires-clause-lines g c =
    let lines = few_lines c.requires.opened.0 in
    let sized = c.headed.ensures.sized c.requires.opened.0 c.requires.opened.1 in
    let same = ap (λ s. s.rounds_line) c.requires.opened.2.program_is in
    omega (arith, lines, sized.1, same)

pub returns-in_default-clause-answer : goal.returns-in_default-clause-answer
returns-in_default-clause-answer g c header is opened =
    let left = g.P.Port.left c.args.port.now in
    let reads = g.P.Port.read_faults c.args.port.now in (
      [],
      goes_nothing _ _,
      subst (IsAnswerTo (Some (Replay c.args.options)) left reads reads ends.Memory)
          (sym (append-nil (taken header)))
          (nothing_put (guesses_of (Some (Replay c.args.options))) (Replay c.args.options) left
          reads reads header),
    )

pub returns-in_default-start-clause-answer : goal.returns-in_default-start-clause-answer
returns-in_default-start-clause-answer g c header is opened =
    let left = g.P.Port.left c.args.port.now in
    let reads = g.P.Port.read_faults c.args.port.now in (
      [],
      goes_nothing _ _,
      subst (IsAnswerTo (Some (Replay c.args.options)) left reads reads ends.Memory)
          (sym (append-nil (taken header)))
          (nothing_put (guesses_of (Some (Replay c.args.options))) (Replay c.args.options) left
          reads reads header),
    )

pub replay_by-ended-requires-clause-task : goal.replay_by-ended-requires-clause-task
replay_by-ended-requires-clause-task g c =
    let opened = c.requires.opened.2 in (
      opened.plan,
      c.in-Ok-start.ensures.task_is ∙ opened.task_is ∙ ap (λ s. task_of s opened.plan)
          (sym (ap (λ (at : At). at.schedule) c.in-Ok.ensures ∙ opened.program_is)),
    )

pub returns-clause-answer : goal.returns-clause-answer
returns-clause-answer g c header is opened =
    let options = c.args.options in
    let left = g.P.Port.left c.replay_by-ended.new.port in
    let reads = g.P.Port.read_faults c.args.port.now in
    let reads_now = g.P.Port.read_faults c.replay_by-ended.new.port in
    let same = subject_is options header opened.plan _ c.in-Ok-start.core
    (ap (λ (at : At). at.schedule) c.in-Ok.ensures ∙ opened.program_is)
    (c.in-Ok-start.ensures.task_is ∙ opened.task_is) c.in-Ok-start.ensures.retries_are in
    let answered = replay_answer options header opened.plan is opened.accepted
    (g.P.Port.left c.args.port.now) left (g.P.Port.tape c.args.port.now)
    (g.P.Port.tape c.replay_by-ended.new.port) reads reads_now c.replay_by-ended.result
    (subst (λ (r : Subject). IsAnswered (λ bytes how text. IsReplied r bytes left how text) reads
    reads_now (g.P.Port.left c.args.port.now) left (g.P.Port.tape c.args.port.now)
    (g.P.Port.tape c.replay_by-ended.new.port) c.replay_by-ended.result) same
    c.replay_by-ended.ensures.answered) in (
      answered.0,
      answered.1,
      subst (λ s. IsAnswerTo (Some (Replay options)) left reads reads_now s
          (taken header ++ answered.0)) (sym c.status_of.ensures) answered.2,
    )

pub returns-clause-accepted : goal.returns-clause-accepted
returns-clause-accepted g c =
    ap is_of_replay c.status_of.ensures ∙ reply_accepted c.replay_by-ended.result

pub returns-clause-read_fault : goal.returns-clause-read_fault
returns-clause-read_fault g c e =
    reply_read c.replay_by-ended.result (Rose (g.P.Port.read_faults c.args.port.now)
    (g.P.Port.read_faults c.replay_by-ended.new.port)) c.replay_by-ended.ensures.read_fault
    (sym c.status_of.ensures ∙ e)

pub returns-clause-write_fault : goal.returns-clause-write_fault
returns-clause-write_fault g c e =
    c.replay_by-ended.ensures.write_fault (reply_written c.replay_by-ended.result
    (sym c.status_of.ensures ∙ e))
