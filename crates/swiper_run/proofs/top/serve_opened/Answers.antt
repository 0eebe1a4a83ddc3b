use Rattle.std.proofs.Common.{◌≡◌, ◌∙◌, ◌++◌, Some, true, length, sym, ap, subst}
use Rattle.std.proofs.lemmas.List.{length-map}
use Rattle.port_io.specs.Traffic.{taken}
use Rattle.report_model.specs.Tasks.{operation_of}
use Rattle.run_header.specs.Openings.{IsOpened}
use Rattle.surface_model.specs.Parse.{schedule_of}
use Rattle.surface_model.specs.Schedules.{Schedule}
use Rattle.window_model.specs.Decoder.{Task}
use Rattle.swiper_run.specs.Answers.{IsAnswerTo, is_of_asked}
use Rattle.swiper_run.specs.Words.{sizes_asked}
use Rattle.swiper_run.specs.declared.words.Asked.TheVariants.{Plan}
use Rattle.swiper_run.proofs.top.serve_opened.Goals as goal

pub decode-requires-clause-opened : goal.decode-requires-clause-opened
decode-requires-clause-opened g c _ _ =
    let opened = c.requires.opened in (
      opened.0,
      opened.1,
      subst (λ a. IsOpened (sizes_asked a) opened.0 c.args.opening.program c.args.opening.map
          c.args.opening.setting) c.in-Decode.is opened.2,
    )

pub put_plan-requires : goal.put_plan-requires
put_plan-requires g c =
    let opened = c.requires.opened.2 in
    ap (λ (s : Schedule). length s.conds) opened.program_is
    ∙ sym (length-map (schedule_of c.requires.opened.0).conds operation_of)
    ∙ sym (ap (λ (t : Task). length t.operations) opened.task_is)

pub put_replay-requires-clause-opened : goal.put_replay-requires-clause-opened
put_replay-requires-clause-opened g c =
    let opened = c.requires.opened in (
      opened.0,
      opened.1,
      subst (λ a. IsOpened (sizes_asked a) opened.0 c.args.opening.program c.args.opening.map
          c.args.opening.setting) c.in-Replay.is opened.2,
    )

pub returns-in-Replay-clause-answer : goal.returns-in-Replay-clause-answer
returns-in-Replay-clause-answer g c header input is opened told =
    let answered = c.put_replay.ensures.answer header is
    (subst (λ a. IsOpened (sizes_asked a) header c.args.opening.program c.args.opening.map
    c.args.opening.setting) c.in-Replay.is opened) in (
      answered.0,
      answered.1,
      subst (λ a. IsAnswerTo (Some a) (g.P.Port.left c.put_replay.new.port)
          (g.P.Port.read_faults c.args.port.now) (g.P.Port.read_faults c.put_replay.new.port)
          c.put_replay.result (taken header ++ answered.0)) (sym c.in-Replay.is) answered.2,
    )

pub returns-in-Decode-clause-accepted : goal.returns-in-Decode-clause-accepted
returns-in-Decode-clause-accepted g c =
    subst (λ a. is_of_asked a c.decode.result ≡ true) (sym c.in-Decode.is) c.decode.ensures.accepted

pub returns-in-Replay-clause-accepted : goal.returns-in-Replay-clause-accepted
returns-in-Replay-clause-accepted g c =
    subst (λ a. is_of_asked a c.put_replay.result ≡ true) (sym c.in-Replay.is)
    c.put_replay.ensures.accepted

pub returns-in-Plan-clause-accepted : goal.returns-in-Plan-clause-accepted
returns-in-Plan-clause-accepted g c =
    subst (λ a. is_of_asked a c.put_plan.result ≡ true) (sym c.in-Plan.is)
    c.put_plan.ensures.accepted

pub returns-in-Decode-clause-answer : goal.returns-in-Decode-clause-answer
returns-in-Decode-clause-answer g c header input is opened told =
    let answered = c.decode.ensures.answer header input is
    (subst (λ a. IsOpened (sizes_asked a) header c.args.opening.program c.args.opening.map
    c.args.opening.setting) c.in-Decode.is opened) told in (
      answered.0,
      answered.1,
      subst (λ a. IsAnswerTo (Some a) (g.P.Port.left c.decode.new.port)
          (g.P.Port.read_faults c.args.port.now) (g.P.Port.read_faults c.decode.new.port)
          c.decode.result (taken header ++ answered.0)) (sym c.in-Decode.is) answered.2,
    )

pub returns-in-Plan-clause-answer : goal.returns-in-Plan-clause-answer
returns-in-Plan-clause-answer g c header input is opened told =
    let answered = c.put_plan.ensures.answer (sizes_asked c.args.asked) header c.args.opening.map
    is opened in (
      answered.0,
      answered.1,
      subst (λ a. IsAnswerTo (Some a) (g.P.Port.left c.put_plan.new.port)
          (g.P.Port.read_faults c.args.port.now) (g.P.Port.read_faults c.put_plan.new.port)
          c.put_plan.result (taken header ++ answered.0))
          (ap (λ a. Plan (sizes_asked a)) c.in-Plan.is ∙ sym c.in-Plan.is) answered.2,
    )
