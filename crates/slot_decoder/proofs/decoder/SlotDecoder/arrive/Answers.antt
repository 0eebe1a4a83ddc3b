use Rattle.std.proofs.Common.{◌≡◌, ap, subst}
use Rattle.slot_decoder.specs.Histories.{AreAllGuessed, DecoderView}
use Rattle.slot_decoder.specs.Slots.{IsArrival, view_of}
use Rattle.slot_decoder.proofs.Arriving.{arrival, guessed_now, in_range_now, may_arrive, retries_stay}
use Rattle.slot_decoder.proofs.Driving.{idle_at_arrival, none_released}
use Rattle.slot_decoder.proofs.decoder.SlotDecoder.arrive.Goals as goal

pub arrive-requires : goal.arrive-requires
arrive-requires g c =
    may_arrive c.self.inside.core c.args.self.progress (ap (λ (d : DecoderView). d.progress)
    c.self.view_is) c.is_core.ensures.state
    c.self.invariant.quiet _ _ _ c.requires.slot c.requires.in_range c.requires.values
    c.requires.raws

pub drive-requires-clause-idle : goal.drive-requires-clause-idle
drive-requires-clause-idle g c =
    idle_at_arrival _ _ _ _ _ _ c.arrive.ensures c.self.invariant.quiet.none_running
    c.self.invariant.answered

pub drive-requires-clause-given : goal.drive-requires-clause-given
drive-requires-clause-given g c =
    none_released _ _ _ _ _ _ c.arrive.ensures _ c.self.invariant.releases_are

pub invariant_of-result : goal.invariant_of-result
invariant_of-result g c =
    let may = may_arrive c.self.inside.core c.args.self.progress
    (ap (λ (d : DecoderView). d.progress)
    c.self.view_is) c.is_core.ensures.state
    c.self.invariant.quiet _ _ _ c.requires.slot c.requires.in_range c.requires.values
    c.requires.raws in
    record {
      in_range = in_range_now (g.Q.Predictor.may_guess c.args.predictor.now) _ _ _
          c.is_core.ensures.state c.is_core-2.ensures.state _ _ _ _ may c.arrive.ensures
          c.in_ok-drive.ensures.gone;
      quiet = c.in_ok-drive.ensures.quiet;
      answered = c.in_ok-drive.ensures.answered;
      releases_are = c.in_ok-drive.ensures.given;
    }

pub returns-clause-arrival : goal.returns-clause-arrival
returns-clause-arrival g c =
    let may = may_arrive c.self.inside.core c.args.self.progress
    (ap (λ (d : DecoderView). d.progress)
    c.self.view_is) c.is_core.ensures.state
    c.self.invariant.quiet _ _ _ c.requires.slot c.requires.in_range c.requires.values
    c.requires.raws in
    subst (λ (d : DecoderView). IsArrival d.progress c.args.folded.now.defects
    c.args.folded.now.raws (view_of c.drive.new.core).progress) c.self.view_is
    (arrival (g.Q.Predictor.may_guess c.args.predictor.now) _ _ _ c.is_core.ensures.state
    c.is_core-2.ensures.state _ _ _ _ may c.arrive.ensures c.in_ok-drive.ensures.gone)

pub returns-clause-retries : goal.returns-clause-retries
returns-clause-retries g c =
    let may = may_arrive c.self.inside.core c.args.self.progress
    (ap (λ (d : DecoderView). d.progress)
    c.self.view_is) c.is_core.ensures.state
    c.self.invariant.quiet _ _ _ c.requires.slot c.requires.in_range c.requires.values
    c.requires.raws in
    subst (λ (d : DecoderView). (view_of c.drive.new.core).retries ≡ d.retries) c.self.view_is
    (retries_stay (g.Q.Predictor.may_guess c.args.predictor.now) _ _ _ c.is_core.ensures.state
    c.is_core-2.ensures.state _ _ _ _ may c.arrive.ensures c.in_ok-drive.ensures.gone)

pub returns-clause-guessed : goal.returns-clause-guessed
returns-clause-guessed g c =
    let may_guess = g.Q.Predictor.may_guess c.args.predictor.now in
    let may = may_arrive c.self.inside.core c.args.self.progress
    (ap (λ (d : DecoderView). d.progress)
    c.self.view_is) c.is_core.ensures.state
    c.self.invariant.quiet _ _ _ c.requires.slot c.requires.in_range c.requires.values
    c.requires.raws in
    subst (λ (d : DecoderView). AreAllGuessed may_guess d →
    AreAllGuessed may_guess (view_of c.drive.new.core)) c.self.view_is
    (guessed_now may_guess _ _ _ c.is_core.ensures.state c.is_core-2.ensures.state _ _ _ _ may
    c.arrive.ensures c.in_ok-drive.ensures.gone)
