use Rattle.std.proofs.Common.{◌++◌, [], None, Some, refl, subst, arith, rules}
use Rattle.port_io.proofs.Takings.{bytes_joined}
use Rattle.port_io.proofs.Traffic.{goes_nothing}
use Rattle.script_run.specs.Plays.{stage_of}
use Rattle.replay_run.specs.Playings.{IsStepped}
use Rattle.replay_run.proofs.Ending.{stops_here}
use Rattle.replay_run.proofs.Playing.{measured_still, played_more, played_start, stage_still}
use Rattle.replay_run.proofs.play.play_lines.Goals as goal

pub loop-init : goal.loop-init
loop-init g c = record {
  so_far = λ s measured. played_start (stage_of (g.Q.Predictor.may_guess c.args.predictor.now) s
      c.args.player.now.labels c.args.player.now.core) c.args.script _ _ c.args.player.now
      c.requires.unplayed;
  took = ([], goes_nothing _ _);
  room = let r = c.requires.room in omega (arith, r);
  counts = (omega arith, omega arith);
}

pub returns-in_err-stopped-clause-took : goal.returns-in_err-stopped-clause-took
returns-in_err-stopped-clause-took g c =
    let before = c.loop.invariant.took in
    let now = c.step.ensures.took in
    (before.0 ++ now.0, bytes_joined before.0 now.0 _ _ _ _ _ _ before.1 now.1)

pub loop-preserved : goal.loop-preserved
loop-preserved g c =
    let before = c.loop.invariant.took in
    let taken_now = c.step.ensures.took in
    let one = c.in_ok-stopped.ensures.room c.in-None.is in
    let room = c.loop.invariant.room in
    record {
      so_far = λ s measured.
          let may_guess = g.Q.Predictor.may_guess c.args.predictor.now in
          let so = c.loop.invariant.so_far s measured in
          let now = c.in_ok-stopped.ensures.stepped s
          (measured_still s c.args.player.now c.loop.player so.same measured) in
          let stepped = stage_still may_guess s c.args.player.now c.loop.player so.same
          (λ k. IsStepped k c.loop.script c.step.new.script (g.P.Port.left c.step.new.port) now.0
          c.loop.player c.step.new.player None)
          (subst (λ o. IsStepped (stage_of may_guess s c.loop.player.labels c.loop.player.core)
          c.loop.script c.step.new.script (g.P.Port.left c.step.new.port) now.0 c.loop.player
          c.step.new.player o) c.in-None.is now.2) in
          played_more c.read_on.ensures
          (stage_of may_guess s c.args.player.now.labels c.args.player.now.core) c.args.script
          c.loop.script c.step.new.script now.0 stepped.0 _ _ _ _ _ _ c.args.player.now
          c.loop.player c.step.new.player refl so now.1 stepped.1 stepped.2 stepped.3;
      took = (
        before.0 ++ taken_now.0,
        bytes_joined before.0 taken_now.0 _ _ _ _ _ _ before.1 taken_now.1,
      );
      room = omega (arith, one, room);
      counts = (search rules, search rules);
    }

pub returns-in-Some-clause-played : goal.returns-in-Some-clause-played
returns-in-Some-clause-played g c s measured =
    let may_guess = g.Q.Predictor.may_guess c.args.predictor.now in
    let so = c.loop.invariant.so_far s measured in
    let now = c.in_ok-stopped.ensures.stepped s
    (measured_still s c.args.player.now c.loop.player so.same measured) in
    let stepped = stage_still may_guess s c.args.player.now c.loop.player so.same
    (λ k. IsStepped k c.loop.script c.step.new.script (g.P.Port.left c.step.new.port) now.0
    c.loop.player c.step.new.player (Some c.in-Some.end))
    (subst (λ o. IsStepped (stage_of may_guess s c.loop.player.labels c.loop.player.core)
    c.loop.script c.step.new.script (g.P.Port.left c.step.new.port) now.0 c.loop.player
    c.step.new.player o) c.in-Some.is now.2) in (
      so.bytes ++ now.0,
      bytes_joined so.bytes now.0 _ _ _ _ _ _ so.goes now.1,
      stops_here (stage_of may_guess s c.args.player.now.labels c.args.player.now.core)
          c.args.script c.loop.script _ _ _ _ _ (g.P.Port.tape c.step.new.port)
          c.args.player.now c.loop.player
          c.step.new.player now.0 c.requires.room refl so c.read_on.ensures c.last.ensures
          c.ended.ensures c.stopped.ensures c.step.new.script c.in-Some.end stepped,
    )

pub returns-in-Some-clause-took : goal.returns-in-Some-clause-took
returns-in-Some-clause-took g c =
    let before = c.loop.invariant.took in
    let now = c.step.ensures.took in
    (before.0 ++ now.0, bytes_joined before.0 now.0 _ _ _ _ _ _ before.1 now.1)
