use Rattle.std.proofs.Common.{◌∙◌}
use Rattle.window_core.proofs.Guessed.{about_next}
use Rattle.window_core.proofs.compared.about.Goals as goal

pub loop-at-preserved : goal.loop-at-preserved
loop-at-preserved c =
    about_next c.args.deps.now c.args.bits.now c.args.source c.loop-at.at c.loop-at-test.true
    c.requires c.if-deps-at.false ∙ c.loop-at.invariant
