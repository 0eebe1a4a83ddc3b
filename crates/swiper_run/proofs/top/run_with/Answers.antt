use Rattle.std.proofs.Common.{◌≡◌, ◌++◌, Some, Err, ap, subst, arith}
use Rattle.port_io.specs.Traffic.{taken}
use Rattle.run_header.specs.Openings.{IsNotOpened, IsOpened}
use Rattle.run_header.specs.declared.refusal.OpeningError.TheVariants.{ReadFault}
use Rattle.decode_rounds.proofs.Courses.{rose_until, told_after}
use Rattle.swiper_run.specs.Words.{sizes_of}
use Rattle.swiper_run.specs.declared.words.Asked.TheVariants.{Decode}
use Rattle.swiper_run.proofs.Completeness.{run_well}
use Rattle.swiper_run.proofs.Concluding.{answer_since, behind}
use Rattle.swiper_run.proofs.Refusing.{refusal_answer}
use Rattle.swiper_run.proofs.top.run_with.Goals as goal

pub decode_opened-requires-clause-opened : goal.decode_opened-requires-clause-opened
decode_opened-requires-clause-opened g c _ _ =
    let opened = c.in-Ok.ensures.opened in (
      opened.0,
      opened.2,
      subst (λ s. IsOpened s opened.0 c.in-Ok.opening.program c.in-Ok.opening.map
          c.in-Ok.opening.setting) c.sizes_of.ensures.value opened.3,
    )

pub returns-in-Ok-clause-answer : goal.returns-in-Ok-clause-answer
returns-in-Ok-clause-answer g c input told =
    let opened = c.in-Ok.ensures.opened in
    let may_guess = g.Q.Predictor.may_guess c.args.predictor.now in
    let asked = Some (Decode c.args.options) in
    let rest = told_after input (taken opened.0) _ _ _ _ opened.1 told in
    let reads = g.P.Port.read_faults c.args.port.now in
    let reads_now = g.P.Port.read_faults c.decode_opened.new.port in
    let answered = c.decode_opened.ensures.answer opened.0 rest.0 opened.2
    (subst (λ s. IsOpened s opened.0 c.in-Ok.opening.program c.in-Ok.opening.map
    c.in-Ok.opening.setting) c.sizes_of.ensures.value opened.3) rest.1 in
    let since = answer_since may_guess asked (g.P.Port.left c.decode_opened.new.port) reads
    (g.P.Port.read_faults c.open_schedule.new.port) reads_now c.decode_opened.result
    (taken opened.0 ++ answered.0) c.open_schedule.ensures.counts.0 answered.2 in
    behind may_guess asked reads reads_now c.decode_opened.result (taken opened.0) _ _ _ _ _ _
    opened.1 (answered.0, answered.1, since)

pub returns-in-Err-clause-answer : goal.returns-in-Err-clause-answer
returns-in-Err-clause-answer g c input left_is =
    let refused = c.in-Err.ensures.refused in
    let may_guess = g.Q.Predictor.may_guess c.args.predictor.now in
    let reads = g.P.Port.read_faults c.args.port.now in
    let reads_now = g.P.Port.read_faults c.refuse.new.port in
    let failed = λ (e : c.in-Err.error ≡ ReadFault).
    rose_until reads (g.P.Port.read_faults c.open_schedule.new.port) reads_now
    (c.in-Err.ensures.fault (ap (λ x. Err x) e)) c.refuse.ensures.counts.0 in
    let told = c.refuse.ensures.answer (sizes_of c.args.options.windows) refused.0 reads failed
    (subst (λ s. IsNotOpened s refused.0 (g.P.Port.left c.open_schedule.new.port) c.in-Err.error)
    c.sizes_of.ensures.value refused.2) in
    behind may_guess (Some (Decode c.args.options)) reads reads_now c.refuse.result
    (taken refused.0) _ _ _ _ _ _ refused.1 (
      told.0,
      told.1,
      refusal_answer may_guess
          (g.P.Port.left c.refuse.new.port) (Decode c.args.options) reads reads_now c.refuse.result
          (taken refused.0 ++ told.0) told.2,
    )

pub returns-in-Ok-clause-complete : goal.returns-in-Ok-clause-complete
returns-in-Ok-clause-complete g c input told good reads writes =
    run_well c.headed.ensures.one c.headed.ensures.stands c.judged.ensures.never_both
    (g.Q.Predictor.may_guess c.args.predictor.now) c.args.options input _ _ _ _ _ _
    c.decode_opened.result told good (returns-in-Ok-clause-answer g c input told)
    (λ e. reads (let rose = c.decode_opened.ensures.read_fault e in
    let since = c.open_schedule.ensures.counts.0 in omega (arith, rose, since)))
    (λ e. writes (let rose = c.decode_opened.ensures.write_fault e in
    let since = c.open_schedule.ensures.counts.1 in omega (arith, rose, since)))

pub returns-in-Err-clause-complete : goal.returns-in-Err-clause-complete
returns-in-Err-clause-complete g c input told good reads writes =
    run_well c.headed.ensures.one c.headed.ensures.stands c.judged.ensures.never_both
    (g.Q.Predictor.may_guess c.args.predictor.now) c.args.options input _ _ _ _ _ _
    c.refuse.result told good (returns-in-Err-clause-answer g c input told)
    (λ e. reads (rose_until (g.P.Port.read_faults c.args.port.now)
    (g.P.Port.read_faults c.open_schedule.new.port) (g.P.Port.read_faults c.refuse.new.port)
    (c.in-Err.ensures.fault (ap (λ x. Err x) (c.refuse.ensures.read_fault e)))
    c.refuse.ensures.counts.0))
    (λ e. writes (let rose = c.refuse.ensures.write_fault e in
    let since = c.open_schedule.ensures.counts.1 in omega (arith, rose, since)))
