use Rattle.std.proofs.Common.{sym, subst}
use Rattle.core_state.specs.States.{CoreTable}
use Rattle.slot_decoder.specs.Slots.{AllAnswered, AllQuiet, AreReleases, HasGoneOn, IsStepped}
use Rattle.slot_decoder.proofs.Driving.{gone_further, gone_none, less_room, quiet_now}
use Rattle.slot_decoder.proofs.turns.drive.Goals as goal

pub loop-core-init : goal.loop-core-init
loop-core-init g c = record {
  gone = gone_none (g.Q.Predictor.may_guess c.args.predictor.now) c.args.core.now;
  idle = c.requires.idle;
  given = c.requires.given;
}

pub loop-core-preserved : goal.loop-core-preserved
loop-core-preserved g c =
    let may_guess = g.Q.Predictor.may_guess c.args.predictor.now in
    let step = subst (IsStepped may_guess c.loop-core.core c.step.new.core
    c.loop-core.releases.items c.step.new.releases.items) c.if-branch.true c.in_ok-step.ensures in
    record {
      gone = gone_further may_guess _ _ _ c.loop-core.invariant.gone step.on;
      idle = step.idle;
      given = step.releases_are;
    }

pub loop-core-smaller : goal.loop-core-smaller
loop-core-smaller g c =
    let may_guess = g.Q.Predictor.may_guess c.args.predictor.now in
    let step = subst (IsStepped may_guess c.loop-core.core c.step.new.core
    c.loop-core.releases.items c.step.new.releases.items) c.if-branch.true c.in_ok-step.ensures in
    less_room may_guess _ _ _ step c.is_core.ensures.state

pub returns : goal.returns
returns g c =
    let may_guess = g.Q.Predictor.may_guess c.args.predictor.now in
    let end = subst (IsStepped may_guess c.loop-core.core c.step.new.core
    c.loop-core.releases.items c.step.new.releases.items) c.if-branch.false
    c.in_ok-step.ensures in
    record {
      gone = subst (HasGoneOn may_guess c.args.core.now) (sym end.0) c.loop-core.invariant.gone;
      quiet = subst AllQuiet (sym end.0)
          (quiet_now c.loop-core.core c.loop-core.invariant.idle.none_runs end.2);
      answered = subst AllAnswered (sym end.0) c.loop-core.invariant.idle.answered;
      given = subst (AreReleases c.step.new.core) (sym end.1)
          (subst (λ (core : CoreTable). AreReleases core c.loop-core.releases.items) (sym end.0)
          c.loop-core.invariant.given);
    }
