use Rattle.std.proofs.Common.{refl, sym, subst}
use Rattle.slot_decoder.specs.Slots.{HasStepped}
use Rattle.slot_decoder.proofs.Answering.{job_awaited}
use Rattle.slot_decoder.proofs.Driving.{stepped, stepped_by_claim, stepped_quietly}
use Rattle.slot_decoder.proofs.turns.step.Goals as goal

pub answer-requires : goal.answer-requires
answer-requires g c = job_awaited _ _ _ _ c.in-Claimed.ensures

pub returns-in-Dropped : goal.returns-in-Dropped
returns-in-Dropped g c =
    stepped_quietly (g.Q.Predictor.may_guess c.args.predictor.now) _ _ _ _
    c.in-Dropped.ensures.happened tt c.requires.idle refl _ c.requires.given

pub returns-in-Verified : goal.returns-in-Verified
returns-in-Verified g c =
    stepped_quietly (g.Q.Predictor.may_guess c.args.predictor.now) _ _ _ _
    c.in-Verified.ensures.happened tt c.requires.idle refl _ c.requires.given

pub returns-in-Poisoned : goal.returns-in-Poisoned
returns-in-Poisoned g c =
    stepped_quietly (g.Q.Predictor.may_guess c.args.predictor.now) _ _ _ _
    c.in-Poisoned.ensures.happened tt c.requires.idle refl _ c.requires.given

pub returns-in-Committed : goal.returns-in-Committed
returns-in-Committed g c =
    stepped_quietly (g.Q.Predictor.may_guess c.args.predictor.now) _ _ _ _
    c.in-Committed.ensures.1.happened tt c.requires.idle refl _ c.requires.given

pub returns-in_ok-push-in-Released : goal.returns-in_ok-push-in-Released
returns-in_ok-push-in-Released g c =
    let may_guess = g.Q.Predictor.may_guess c.args.predictor.now in
    subst (HasStepped may_guess c.args.core.now c.turn.new.self)
    (sym c.in_ok-push-in-Released.ensures.items)
    (stepped _ _ _ _ c.in-Released.ensures.happened may_guess tt c.requires.idle _
    c.requires.given)

pub returns-in_ok-answer-in-Claimed : goal.returns-in_ok-answer-in-Claimed
returns-in_ok-answer-in-Claimed g c =
    stepped_by_claim (g.Q.Predictor.may_guess c.args.predictor.now) _ _ _ _ _ _ _ _ _
    c.in-Claimed.ensures.turned.next.may.number c.in-Claimed.ensures.guessed
    c.in-Claimed.ensures.turned.happened c.in_ok-answer-in-Claimed.ensures.1 c.requires.idle _
    c.requires.given
