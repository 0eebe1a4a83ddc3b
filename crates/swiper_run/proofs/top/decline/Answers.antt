use Rattle.std.proofs.Common.{◌≡◌, ◌∙◌, [], None, inl, inr, refl, sym, subst}
use Rattle.port_io.proofs.Traffic.{goes_nothing}
use Rattle.report_model.specs.Faults.{Usage, fault_text}
use Rattle.swiper_run.specs.Answers.{IsAnswerOf, guesses_of}
use Rattle.swiper_run.specs.declared.top.Status.TheVariants as ends
use Rattle.swiper_run.proofs.Concluding.{nothing_answered, put_answer}
use Rattle.swiper_run.proofs.top.decline.Goals as goal

pub returns-in-Usage-clause-answer : goal.returns-in-Usage-clause-answer
returns-in-Usage-clause-answer g c given reads none =
    let put_ = put_answer (guesses_of None) None reads (g.P.Port.read_faults c.conclude.new.port)
    ends.Usage
    c.conclude.result [] (fault_text Usage) _ _ _ _ c.conclude.ensures.left (λ e. absurd cc)
    c.conclude.ensures.done refl in (
      put_.0,
      put_.1,
      subst (λ o. IsAnswerOf o (g.P.Port.left c.conclude.new.port) reads
          (g.P.Port.read_faults c.conclude.new.port) c.conclude.result put_.0)
          (sym (none c.in-Usage.is)) put_.2,
    )

pub returns-in-Memory-clause-answer : goal.returns-in-Memory-clause-answer
returns-in-Memory-clause-answer g c given reads none = (
  [],
  goes_nothing _ _,
  nothing_answered given (g.P.Port.left c.args.port.now) reads
      (g.P.Port.read_faults c.args.port.now),
)

pub returns-in-Usage-clause-one : goal.returns-in-Usage-clause-one
returns-in-Usage-clause-one g c = inl c.conclude.ensures.same

pub returns-in-Usage-clause-memory : goal.returns-in-Usage-clause-memory
returns-in-Usage-clause-memory g c e =
    absurd (elim c.conclude.ensures.same [
      | inl is ↦ let no : ends.Memory ≡ ends.Usage = sym e ∙ is in cc
      | inr is ↦ let no : ends.Memory ≡ ends.WriteFault = sym e ∙ is in cc
    ])

pub returns-in-Usage-clause-write_fault : goal.returns-in-Usage-clause-write_fault
returns-in-Usage-clause-write_fault g c e =
    elim (c.conclude.ensures.cause e) [
      | inl is ↦ absurd (let no : ends.Usage ≡ ends.WriteFault = is in cc)
      | inr rose ↦ rose
    ]
