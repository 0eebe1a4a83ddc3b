use Rattle.std.proofs.Common.{sym, ◌∙◌, ap, bytes_eq}
use Rattle.schedule_reader.proofs.Pieces.{rounds_here, rounds_later}
use Rattle.schedule_reader.proofs.line.is_rounds.Goals as goal

pub returns-then-not-is_empty : goal.returns-then-not-is_empty
returns-then-not-is_empty c =
    c.eq.ensures ∙ ap (bytes_eq c.cut.result.0.now) c.as_slice.ensures
    ∙ rounds_here c.args.line.now c.loop-rest.rest.now c.cut.result.0.now c.cut.ensures.front
    c.loop-rest.invariant (sym c.is_empty-in-loop-rest.ensures ∙ c.if-not-is_empty.true)

pub loop-rest-preserved : goal.loop-rest-preserved
loop-rest-preserved c =
    rounds_later c.args.line.now c.loop-rest.rest.now c.cut.result.0.now
    c.cut.result.1.now c.cut.ensures.front c.cut.ensures.back c.loop-rest.invariant
    (sym c.is_empty-in-loop-rest.ensures ∙ c.if-not-is_empty.false)
