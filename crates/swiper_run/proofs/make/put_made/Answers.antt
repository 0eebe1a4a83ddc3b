use Rattle.std.proofs.Common.{◌∙◌, [], refl}
use Rattle.port_io.proofs.Traffic.{goes_nothing}
use Rattle.swiper_run.specs.declared.top.Status.TheVariants.{Ok}
use Rattle.swiper_run.proofs.Making.{made_answer}
use Rattle.swiper_run.proofs.make.put_made.Goals as goal

pub returns-in-Ok-clause-answer : goal.returns-in-Ok-clause-answer
returns-in-Ok-clause-answer g c =
    made_answer c.args.options Ok c.conclude.result c.deref.result.now _ _ _ _
    c.conclude.ensures.done (c.in-Ok.ensures.few, c.deref.ensures.value ∙ c.in-Ok.ensures.text)

pub returns-in-Err-Memory-clause-answer : goal.returns-in-Err-Memory-clause-answer
returns-in-Err-Memory-clause-answer g c = ([], goes_nothing _ _, refl)
