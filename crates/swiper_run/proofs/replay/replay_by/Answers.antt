use Rattle.std.proofs.Common.{sym, subst}
use Rattle.replay_run.specs.Answers.{IsAnswered, subject}
use Rattle.replay_run.specs.Replies.{IsReplied}
use Rattle.swiper_run.specs.Guessed.{may_guess_of}
use Rattle.swiper_run.proofs.replay.replay_by.Goals as goal

pub returns-in-Zero-clause-answered : goal.returns-in-Zero-clause-answered
returns-in-Zero-clause-answered g c =
    subst (λ k. IsAnswered (λ bytes end text. IsReplied (subject c.args.reader.now.schedule
    c.args.core (may_guess_of k)) bytes (g.P.Port.left c.replay.new.port) end text)
    (g.P.Port.read_faults c.args.port.now) (g.P.Port.read_faults c.replay.new.port)
    (g.P.Port.left c.args.port.now) (g.P.Port.left c.replay.new.port)
    (g.P.Port.tape c.args.port.now) (g.P.Port.tape c.replay.new.port) c.replay.result)
    (sym c.in-Zero.is) c.replay.ensures.answered

pub returns-in-Near-clause-answered : goal.returns-in-Near-clause-answered
returns-in-Near-clause-answered g c =
    subst (λ k. IsAnswered (λ bytes end text. IsReplied (subject c.args.reader.now.schedule
    c.args.core (may_guess_of k)) bytes (g.P.Port.left c.replay-in-Near.new.port) end text)
    (g.P.Port.read_faults c.args.port.now) (g.P.Port.read_faults c.replay-in-Near.new.port)
    (g.P.Port.left c.args.port.now) (g.P.Port.left c.replay-in-Near.new.port)
    (g.P.Port.tape c.args.port.now) (g.P.Port.tape c.replay-in-Near.new.port)
    c.replay-in-Near.result) (sym c.in-Near.is) c.replay-in-Near.ensures.answered

pub returns-in-Seeded-clause-answered : goal.returns-in-Seeded-clause-answered
returns-in-Seeded-clause-answered g c =
    subst (λ k. IsAnswered (λ bytes end text. IsReplied (subject c.args.reader.now.schedule
    c.args.core (may_guess_of k)) bytes (g.P.Port.left c.replay-in-Seeded.new.port) end text)
    (g.P.Port.read_faults c.args.port.now) (g.P.Port.read_faults c.replay-in-Seeded.new.port)
    (g.P.Port.left c.args.port.now) (g.P.Port.left c.replay-in-Seeded.new.port)
    (g.P.Port.tape c.args.port.now) (g.P.Port.tape c.replay-in-Seeded.new.port)
    c.replay-in-Seeded.result) (sym c.in-Seeded.is) c.replay-in-Seeded.ensures.answered
