use Rattle.std.proofs.Common.{◌≡◌, ◌++◌, Some, Err, ap, subst}
use Rattle.port_io.specs.Traffic.{taken}
use Rattle.run_header.specs.Openings.{IsNotOpened, IsOpened}
use Rattle.run_header.specs.declared.refusal.OpeningError.TheVariants.{ReadFault}
use Rattle.decode_rounds.proofs.Courses.{rose_until, told_after}
use Rattle.swiper_run.proofs.Concluding.{accepted_asked, answer_since, behind}
use Rattle.swiper_run.proofs.Refusing.{refusal_answer}
use Rattle.swiper_run.specs.Answers.{guesses_of}
use Rattle.swiper_run.specs.Words.{sizes_asked}
use Rattle.swiper_run.proofs.top.serve.Goals as goal

pub serve_opened-requires-clause-opened : goal.serve_opened-requires-clause-opened
serve_opened-requires-clause-opened g c _ _ =
    let opened = c.in-Ok.ensures.opened in (
      opened.0,
      opened.2,
      subst (λ s. IsOpened s opened.0 c.in-Ok.opening.program c.in-Ok.opening.map
          c.in-Ok.opening.setting) c.sizes.ensures.value opened.3,
    )

pub returns-in-Ok-clause-answer : goal.returns-in-Ok-clause-answer
returns-in-Ok-clause-answer g c input told =
    let opened = c.in-Ok.ensures.opened in
    let rest = told_after input (taken opened.0) _ _ _ _ opened.1 told in
    let reads = g.P.Port.read_faults c.args.port.now in
    let reads_now = g.P.Port.read_faults c.serve_opened.new.port in
    let answered = c.serve_opened.ensures.answer opened.0 rest.0 opened.2
    (subst (λ s. IsOpened s opened.0 c.in-Ok.opening.program c.in-Ok.opening.map
    c.in-Ok.opening.setting) c.sizes.ensures.value opened.3) rest.1 in
    let since = answer_since (guesses_of (Some c.args.asked)) (Some c.args.asked)
    (g.P.Port.left c.serve_opened.new.port) reads
    (g.P.Port.read_faults c.open_schedule.new.port) reads_now c.serve_opened.result
    (taken opened.0 ++ answered.0) c.open_schedule.ensures.counts.0 answered.2 in
    behind (guesses_of (Some c.args.asked)) (Some c.args.asked) reads reads_now
    c.serve_opened.result (taken opened.0) _ _ _ _ _ _
    opened.1 (answered.0, answered.1, since)

pub returns-in-Err-clause-answer : goal.returns-in-Err-clause-answer
returns-in-Err-clause-answer g c input left_is =
    let refused = c.in-Err.ensures.refused in
    let reads = g.P.Port.read_faults c.args.port.now in
    let reads_now = g.P.Port.read_faults c.refuse.new.port in
    let failed = λ (e : c.in-Err.error ≡ ReadFault).
    rose_until reads (g.P.Port.read_faults c.open_schedule.new.port) reads_now
    (c.in-Err.ensures.fault (ap (λ x. Err x) e)) c.refuse.ensures.counts.0 in
    let told = c.refuse.ensures.answer (sizes_asked c.args.asked) refused.0 reads failed
    (subst (λ s. IsNotOpened s refused.0 (g.P.Port.left c.open_schedule.new.port) c.in-Err.error)
    c.sizes.ensures.value refused.2) in
    behind (guesses_of (Some c.args.asked)) (Some c.args.asked) reads reads_now c.refuse.result
    (taken refused.0) _ _ _ _ _ _
    refused.1 (
      told.0,
      told.1,
      refusal_answer (guesses_of (Some c.args.asked))
          (g.P.Port.left c.refuse.new.port) c.args.asked reads reads_now c.refuse.result
          (taken refused.0 ++ told.0) told.2,
    )

pub returns-in-Err-clause-accepted : goal.returns-in-Err-clause-accepted
returns-in-Err-clause-accepted g c = accepted_asked c.args.asked c.refuse.result
    c.refuse.ensures.accepted
