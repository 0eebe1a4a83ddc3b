use Rattle.std.proofs.Common.{◌∙◌, ◌++◌, [], refl, sym, ap, subst}
use Rattle.port_io.proofs.Traffic.{goes_nothing}
use Rattle.report_model.specs.Faults.{TooLarge, fault_text}
use Rattle.swiper_run.specs.Made.{IsMadeText}
use Rattle.swiper_run.specs.declared.top.Status.TheVariants.{Schedule}
use Rattle.swiper_run.proofs.Making.{made_answer}
use Rattle.swiper_run.proofs.make.put_too_large.Goals as goal

pub returns-in-Ok-clause-answer : goal.returns-in-Ok-clause-answer
returns-in-Ok-clause-answer g c options said =
    made_answer options Schedule c.conclude.result c.as_bytes.result.now _ _ _ _
    c.conclude.ensures.done
    (subst (IsMadeText options Schedule) (sym (c.as_bytes.ensures.value ∙ c.in-Ok.ensures
    ∙ ap (λ b. b ++ fault_text (TooLarge c.args.detectors)) c.new-text.ensures.bytes)) said)

pub returns-clause-answer : goal.returns-clause-answer
returns-clause-answer g c options said = ([], goes_nothing _ _, refl)
