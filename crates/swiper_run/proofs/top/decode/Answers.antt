use Rattle.std.proofs.Common.{◌++◌, Some, sym, subst}
use Rattle.port_io.specs.Traffic.{taken}
use Rattle.swiper_run.specs.Answers.{IsAnswerBy}
use Rattle.swiper_run.specs.Guessed.{may_guess_of}
use Rattle.swiper_run.specs.declared.words.Asked.TheVariants.{Decode}
use Rattle.swiper_run.proofs.top.decode.Goals as goal

pub returns-in-Zero-clause-answer : goal.returns-in-Zero-clause-answer
returns-in-Zero-clause-answer g c header input is opened told =
    let answered = c.decode_opened.ensures.answer header input is opened told in (
      answered.0,
      answered.1,
      subst (λ k. IsAnswerBy (may_guess_of k) (Some (Decode c.args.options))
          (g.P.Port.left c.decode_opened.new.port) (g.P.Port.read_faults c.args.port.now)
          (g.P.Port.read_faults c.decode_opened.new.port) c.decode_opened.result
          (taken header ++ answered.0)) (sym c.in-Zero.is) answered.2,
    )

pub returns-in-Near-clause-answer : goal.returns-in-Near-clause-answer
returns-in-Near-clause-answer g c header input is opened told =
    let answered = c.decode_opened-in-Near.ensures.answer header input is opened told in (
      answered.0,
      answered.1,
      subst (λ k. IsAnswerBy (may_guess_of k) (Some (Decode c.args.options))
          (g.P.Port.left c.decode_opened-in-Near.new.port) (g.P.Port.read_faults c.args.port.now)
          (g.P.Port.read_faults c.decode_opened-in-Near.new.port) c.decode_opened-in-Near.result
          (taken header ++ answered.0)) (sym c.in-Near.is) answered.2,
    )

pub returns-in-Seeded-clause-answer : goal.returns-in-Seeded-clause-answer
returns-in-Seeded-clause-answer g c header input is opened told =
    let answered = c.decode_opened-in-Seeded.ensures.answer header input is opened told in (
      answered.0,
      answered.1,
      subst (λ k. IsAnswerBy (may_guess_of k) (Some (Decode c.args.options))
          (g.P.Port.left c.decode_opened-in-Seeded.new.port) (g.P.Port.read_faults c.args.port.now)
          (g.P.Port.read_faults c.decode_opened-in-Seeded.new.port)
          c.decode_opened-in-Seeded.result (taken header ++ answered.0)) (sym c.in-Seeded.is)
          answered.2,
    )
