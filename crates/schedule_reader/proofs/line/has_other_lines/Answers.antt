use Rattle.std.proofs.Common.{sym, ◌∙◌}
use Rattle.schedule_reader.proofs.Pieces.{other_line, skipped_line}
use Rattle.schedule_reader.proofs.line.has_other_lines.Goals as goal

pub returns-then-not-is_skipped : goal.returns-then-not-is_skipped
returns-then-not-is_skipped c =
    other_line c.args.text.now c.loop-rest.rest.now c.cut.result.0.now c.cut.result.1.now
    (sym c.is_empty.ensures ∙ c.loop-rest-test.true) c.cut.ensures.front c.cut.ensures.back
    c.loop-rest.invariant (sym c.is_skipped.ensures ∙ c.if-not-is_skipped.true)

pub loop-rest-preserved : goal.loop-rest-preserved
loop-rest-preserved c =
    skipped_line c.args.text.now c.loop-rest.rest.now c.cut.result.0.now c.cut.result.1.now
    (sym c.is_empty.ensures ∙ c.loop-rest-test.true) c.cut.ensures.front c.cut.ensures.back
    c.loop-rest.invariant (sym c.is_skipped.ensures ∙ c.if-not-is_skipped.false)
