use Rattle.std.proofs.Common.{ap, sym, subst, ◌∙◌, refl, inl, inr, Some, arith}
use Rattle.script_reader.specs.Lines.{At, IsRead, after_read}
use Rattle.script_reader.specs.declared.found.Found.TheVariants.{Line}
use Rattle.script_run.specs.Plays.{stage_of}
use Rattle.replay_run.specs.Playings.{IsStepped}
use Rattle.replay_run.proofs.Stepping.{last_stepped, line_stepped}
use Rattle.replay_run.proofs.play.step.Goals as goal

pub returns-in-Err-clause-stepped : goal.returns-in-Err-clause-stepped
returns-in-Err-clause-stepped g c s measured =
    let why = c.in-Err.ensures.refused in
    (why.0, why.1, inl (refl, inr (c.in-Err.error, c.end_of.ensures, why.2)))

pub returns-in-Err-clause-took : goal.returns-in-Err-clause-took
returns-in-Err-clause-took g c = let why = c.in-Err.ensures.refused in (why.0, why.1)

pub returns-in_ok-end-in-Line-clause-stepped : goal.returns-in_ok-end-in-Line-clause-stepped
returns-in_ok-end-in-Line-clause-stepped g c s measured =
    let read = c.in-Ok.ensures.read in
    let line = c.in-Line.line in (
      read.0,
      read.1,
      line_stepped (stage_of (g.Q.Predictor.may_guess c.args.predictor.now) s
          c.args.player.now.labels c.args.player.now.core) c.args.script.now c.next_line.new.self _
          read.0 c.args.player.now c.do_line.new.player line c.line-number.result
          c.in_ok-end-in-Line.end
          (subst (λ f. IsRead c.args.script.now f read.0 (g.P.Port.left c.next_line.new.port))
          c.in-Line.is read.2)
          (c.in-Ok.ensures.stands ∙ ap (after_read c.args.script.now) c.in-Line.is)
          c.line-number.ensures (c.in_ok-end-in-Line.ensures.done s measured),
    )

pub returns-in_ok-end-in-Line-clause-took : goal.returns-in_ok-end-in-Line-clause-took
returns-in_ok-end-in-Line-clause-took g c = let read = c.in-Ok.ensures.read in (read.0, read.1)

pub returns-in_ok-end-in-Last-clause-stepped : goal.returns-in_ok-end-in-Last-clause-stepped
returns-in_ok-end-in-Last-clause-stepped g c s measured =
    let read = c.in-Ok.ensures.read in
    let line = c.in-Last.line in (
      read.0,
      read.1,
      subst (λ e. IsStepped (stage_of (g.Q.Predictor.may_guess c.args.predictor.now) s
          c.args.player.now.labels c.args.player.now.core) c.args.script.now c.next_line.new.self
          (g.P.Port.left c.next_line.new.port) read.0 c.args.player.now
          c.do_line-in-Last.new.player (Some e)) (sym c.unwrap_or.ensures)
          (last_stepped (stage_of (g.Q.Predictor.may_guess c.args.predictor.now) s
          c.args.player.now.labels c.args.player.now.core) c.args.script.now c.next_line.new.self _
          read.0 c.args.player.now c.do_line-in-Last.new.player line c.line-number.result
          c.in_ok-end-in-Last.end
          (subst (λ f. IsRead c.args.script.now f read.0 (g.P.Port.left c.next_line.new.port))
          c.in-Last.is read.2)
          c.line-number.ensures (c.in_ok-end-in-Last.ensures.done s measured)),
    )

pub returns-in_ok-end-in-Last-clause-took : goal.returns-in_ok-end-in-Last-clause-took
returns-in_ok-end-in-Last-clause-took g c = let read = c.in-Ok.ensures.read in (read.0, read.1)

pub returns-in-End-clause-stepped : goal.returns-in-End-clause-stepped
returns-in-End-clause-stepped g c s measured =
    let read = c.in-Ok.ensures.read in (
      read.0,
      read.1,
      inl (
        refl,
        inl (
          refl,
          subst (λ f. IsRead c.args.script.now f read.0
              (g.P.Port.left c.next_line.new.port)) c.in-End.is read.2,
        ),
      ),
    )

pub returns-in-End-clause-took : goal.returns-in-End-clause-took
returns-in-End-clause-took g c = let read = c.in-Ok.ensures.read in (read.0, read.1)

pub returns-in_ok-end-in-Line-clause-room : goal.returns-in_ok-end-in-Line-clause-room
returns-in_ok-end-in-Line-clause-room g c none =
    let read = c.in-Ok.ensures.read in
    let is : IsRead c.args.script.now (Line c.in-Line.line) read.0
    (g.P.Port.left c.next_line.new.port) =
    subst (λ f. IsRead c.args.script.now f read.0 (g.P.Port.left c.next_line.new.port)) c.in-Line.is
    read.2 in
    let next = ap (λ (a : At). a.room) (c.in-Ok.ensures.stands
    ∙ ap (after_read c.args.script.now) c.in-Line.is) in
    let some = is.4 in
    omega (arith, next, some)
