use Rattle.std.proofs.Common.{◌∙◌, ◌++◌, [], sym, ap, subst, append-nil}
use Rattle.port_io.specs.Port.{sent}
use Rattle.port_io.specs.Traffic.{taken}
use Rattle.port_io.proofs.Traffic.{goes_nothing}
use Rattle.report_model.specs.Faults.{fault_text}
use Rattle.swiper_run.specs.Answers.{IsUnopened}
use Rattle.swiper_run.specs.Faults.{fault_of}
use Rattle.swiper_run.proofs.Concluding.{accepted_or_cut}
use Rattle.swiper_run.proofs.Refusing.{put_refusal}
use Rattle.swiper_run.proofs.top.tell.Goals as goal

pub returns-in-Ok-clause-answer : goal.returns-in-Ok-clause-answer
returns-in-Ok-clause-answer g c sizes bytes reads cause said =
    put_refusal sizes reads (g.P.Port.read_faults c.conclude.new.port) c.args.status
    c.conclude.result (taken bytes) c.as_bytes.result.now _ _ _ _ c.conclude.ensures.left cause
    c.conclude.ensures.done
    (subst (λ text. IsUnopened sizes (g.P.Port.left c.args.port.now) c.args.status (taken bytes
    ++ sent text)) (sym (c.as_bytes.ensures.value ∙ c.in-Ok.ensures
    ∙ ap (λ b. b ++ fault_text (fault_of c.args.fault)) c.new-text.ensures.bytes)) said)

pub returns-clause-answer : goal.returns-clause-answer
returns-clause-answer g c sizes bytes reads cause said =
    ([], goes_nothing _ _, (bytes, append-nil (taken bytes)))

pub returns-in-Ok-clause-accepted : goal.returns-in-Ok-clause-accepted
returns-in-Ok-clause-accepted g c is =
    accepted_or_cut c.args.status c.conclude.result c.conclude.ensures.same is
