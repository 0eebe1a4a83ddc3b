use Rattle.std.proofs.Common.{sym, subst, string_bytes}
use Rattle.replay_model.specs.declared.ScriptLine.TheVariants.{Arrive, Turn, Finish}
use Rattle.script_run.specs.Plays.{HasRows, bare, stage_of}
use Rattle.script_run.proofs.Acting.{arrive_acted, finish_acted}
use Rattle.script_run.proofs.Printing.{line_played}
use Rattle.script_run.proofs.Telling.{acted_last, acted_task}
use Rattle.script_run.proofs.player.Player.play.Goals as goal

pub print-requires : goal.print-requires
print-requires g c =
    acted_last (bare c.self.invariant.0 c.self.inside.core) Arrive c.self.inside.core
    c.arrive-act.new.core c.arrive-act.result
    (c.arrive-act.ensures.acted c.self.invariant.0 c.self.invariant.1)

pub print-requires-in-Turn : goal.print-requires-in-Turn
print-requires-in-Turn g c =
    acted_last (stage_of (g.Q.Predictor.may_guess c.args.predictor.now) c.self.invariant.0
    c.self.inside.labels.now c.self.inside.core) Turn c.self.inside.core c.turn-act.new.core
    c.turn-act.result (c.turn-act.ensures c.self.invariant.0 c.self.inside.labels.now)

pub invariant_of-self-in-Turn : goal.invariant_of-self-in-Turn
invariant_of-self-in-Turn g c =
    subst (λ t. HasRows t c.self.inside.rows.now)
    (sym (acted_task (stage_of (g.Q.Predictor.may_guess c.args.predictor.now) c.self.invariant.0
    c.self.inside.labels.now c.self.inside.core) Turn c.self.inside.core c.turn-act.new.core
    c.turn-act.result (c.turn-act.ensures c.self.invariant.0 c.self.inside.labels.now)))
    c.self.invariant

pub print-requires-in-Finish : goal.print-requires-in-Finish
print-requires-in-Finish g c =
    acted_last (bare c.self.invariant.0 c.self.inside.core) (Finish c.in-Finish.ticket)
    c.self.inside.core c.finish.new.core c.in_ok-act-in-Finish.act
    (c.in_ok-act-in-Finish.ensures.acted c.self.invariant.0)

pub invariant_of-self-in-Finish : goal.invariant_of-self-in-Finish
invariant_of-self-in-Finish g c =
    subst (λ t. HasRows t c.self.inside.rows.now)
    (sym (acted_task (bare c.self.invariant.0 c.self.inside.core) (Finish c.in-Finish.ticket)
    c.self.inside.core c.finish.new.core c.in_ok-act-in-Finish.act
    (c.in_ok-act-in-Finish.ensures.acted c.self.invariant.0))) c.self.invariant

pub returns-in-Arrive : goal.returns-in-Arrive
returns-in-Arrive g c =
    line_played (g.Q.Predictor.may_guess c.args.predictor.now) _ c.args.self.now
    c.arrive-act.new.core (string_bytes c.print.new.text) c.args.line Arrive c.arrive-act.result
    c.print.result c.self.view_is c.in-Arrive.is
    (λ s m. arrive_acted (g.Q.Predictor.may_guess c.args.predictor.now) s c.self.inside.labels.now
    c.self.inside.core c.arrive-act.new.core c.arrive-act.result (c.arrive-act.ensures.acted s m))
    c.print.ensures

pub returns-in-Turn : goal.returns-in-Turn
returns-in-Turn g c =
    line_played (g.Q.Predictor.may_guess c.args.predictor.now) _ c.args.self.now
    c.turn-act.new.core (string_bytes c.print-in-Turn.new.text) c.args.line Turn c.turn-act.result
    c.print-in-Turn.result c.self.view_is c.in-Turn.is
    (λ s m. c.turn-act.ensures s c.self.inside.labels.now) c.print-in-Turn.ensures

pub returns-in_ok-act-in-Finish : goal.returns-in_ok-act-in-Finish
returns-in_ok-act-in-Finish g c =
    line_played (g.Q.Predictor.may_guess c.args.predictor.now) _ c.args.self.now
    c.finish.new.core (string_bytes c.print-in-Finish.new.text) c.args.line
    (Finish c.in-Finish.ticket) c.in_ok-act-in-Finish.act c.print-in-Finish.result c.self.view_is
    c.in-Finish.is
    (λ s m. finish_acted (g.Q.Predictor.may_guess c.args.predictor.now) s c.self.inside.labels.now
    c.self.inside.core c.finish.new.core c.in-Finish.ticket c.in_ok-act-in-Finish.act
    (c.in_ok-act-in-Finish.ensures.acted s)) c.print-in-Finish.ensures
