use Rattle.std.proofs.Common.{refl, subst}
use Rattle.script_run.specs.Plays.{IsLinePlayed, stage_of}
use Rattle.replay_run.proofs.play.do_line.Goals as goal

pub returns-in-Done-clause-done : goal.returns-in-Done-clause-done
returns-in-Done-clause-done g c s measured =
    subst (IsLinePlayed (stage_of (g.Q.Predictor.may_guess c.args.predictor.now) s
    c.args.player.now.labels c.args.player.now.core) c.args.line c.args.player.now
    c.play.new.self) c.in-Done.is (c.in_ok-played.ensures s measured)

pub returns-in-Refused-clause-done : goal.returns-in-Refused-clause-done
returns-in-Refused-clause-done g c s measured =
    let refused = subst (IsLinePlayed (stage_of (g.Q.Predictor.may_guess c.args.predictor.now) s
    c.args.player.now.labels c.args.player.now.core) c.args.line c.args.player.now
    c.play.new.self) c.in-Refused.is (c.in_ok-played.ensures s measured) in
    (refl, refused.0, refused.1)
