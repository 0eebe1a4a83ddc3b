use Rattle.std.proofs.Common.{◌++◌, refl, ap, subst, inl, inr}
use Rattle.std.proofs.lemmas.Result.{IfOk-weaker}
use Rattle.port_io.proofs.Takings.{bytes_joined}
use Rattle.replay_model.specs.Scripts.{due_line}
use Rattle.script_reader.specs.Lines.{At}
use Rattle.script_run.specs.Plays.{stage_of}
use Rattle.replay_run.specs.Playings.{IsPlayedTo}
use Rattle.replay_run.proofs.play.play.Goals as goal

pub play_lines-requires-clause-room : goal.play_lines-requires-clause-room
play_lines-requires-clause-room g c = ap (λ (a : At). a.room) c.in-Ok.ensures.stands

pub returns-in-Ok-clause-played : goal.returns-in-Ok-clause-played
returns-in-Ok-clause-played g c =
    IfOk-weaker c.play_lines.result _ _
    (λ end played s measured.
    let p = played s measured in (
      due_line ++ p.0,
      bytes_joined due_line p.0 _ _ _ _ _ _ c.in-Ok.ensures.due p.1,
      inr (
        p.0,
        refl,
        subst (λ (a : At). IsPlayedTo (stage_of (g.Q.Predictor.may_guess c.args.predictor.now) s
            c.args.player.now.labels c.args.player.now.core) a.line p.0
            (g.P.Port.left c.play_lines.new.port) c.args.player.now c.play_lines.new.player end)
            c.in-Ok.ensures.stands p.2,
      ),
    ))
    c.play_lines.ensures.played

pub returns-in-Ok-clause-took : goal.returns-in-Ok-clause-took
returns-in-Ok-clause-took g c =
    let more = c.play_lines.ensures.took in (
      due_line ++ more.0,
      bytes_joined due_line more.0 _ _ _ _ _ _ c.in-Ok.ensures.due more.1,
    )

pub returns-in-Err-clause-played : goal.returns-in-Err-clause-played
returns-in-Err-clause-played g c s measured =
    let why = c.in-Err.ensures.refused in
    (why.0, why.1, inl (refl, (c.in-Err.error, c.end_of.ensures, why.2)))

pub returns-in-Err-clause-took : goal.returns-in-Err-clause-took
returns-in-Err-clause-took g c = let why = c.in-Err.ensures.refused in (why.0, why.1)
