use Rattle.std.proofs.Common.{◌∙◌}
use Rattle.syndrome_source.proofs.Fields.{fields_behind}
use Rattle.syndrome_source.proofs.text.without_spaces.Goals as goal

pub loop-at-preserved : goal.loop-at-preserved
loop-at-preserved c =
    fields_behind c.args.line.now c.loop-at.at c.loop-at-test.true c.if-byte-ne32.false
    ∙ c.loop-at.invariant
