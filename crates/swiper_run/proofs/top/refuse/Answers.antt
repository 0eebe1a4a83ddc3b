use Rattle.std.proofs.Common.{[], subst, append-nil}
use Rattle.port_io.specs.Traffic.{taken}
use Rattle.port_io.proofs.Traffic.{goes_nothing}
use Rattle.run_header.specs.Openings.{IsNotOpened}
use Rattle.swiper_run.proofs.Refusing.{ended_unopened, failed_unopened, refused_unopened}
use Rattle.swiper_run.proofs.top.refuse.Goals as goal

pub returns-in-Refused-clause-answer : goal.returns-in-Refused-clause-answer
returns-in-Refused-clause-answer g c sizes bytes reads cause none =
    c.tell.ensures.answer sizes bytes reads (λ e. absurd cc)
    (refused_unopened sizes bytes (g.P.Port.left c.args.port.now) c.in-Refused.refusal
    (subst (IsNotOpened sizes bytes (g.P.Port.left c.args.port.now)) c.in-Refused.is none))

pub returns-in-Memory-clause-answer : goal.returns-in-Memory-clause-answer
returns-in-Memory-clause-answer g c sizes bytes reads cause none =
    ([], goes_nothing _ _, (bytes, append-nil (taken bytes)))

pub returns-in-Ended-clause-answer : goal.returns-in-Ended-clause-answer
returns-in-Ended-clause-answer g c sizes bytes reads cause none =
    c.tell-in-Ended.ensures.answer sizes bytes reads (λ e. absurd cc)
    (ended_unopened sizes bytes (g.P.Port.left c.args.port.now) c.in-Ended.line
    (subst (IsNotOpened sizes bytes (g.P.Port.left c.args.port.now)) c.in-Ended.is none))

pub returns-in-ReadFault-clause-answer : goal.returns-in-ReadFault-clause-answer
returns-in-ReadFault-clause-answer g c sizes bytes reads cause none =
    c.tell-in-ReadFault.ensures.answer sizes bytes reads (λ e. cause c.in-ReadFault.is)
    (failed_unopened sizes bytes (g.P.Port.left c.args.port.now)
    (subst (IsNotOpened sizes bytes (g.P.Port.left c.args.port.now)) c.in-ReadFault.is none))
