use Rattle.std.proofs.Common.{sym, ◌∙◌}
use Rattle.schedule_rules.proofs.Broken.{repeated, no_repeat}
use Rattle.schedule_rules.proofs.lives.has_repeats.Goals as goal

pub returns-then-has_label : goal.returns-then-has_label
returns-then-has_label c = sym (repeated c.args.labels.now c.loop-at.at c.loop-at-test.true
    (sym c.has_label.ensures ∙ c.if-has_label.true))

pub loop-at-preserved : goal.loop-at-preserved
loop-at-preserved c = no_repeat c.args.labels.now c.loop-at.at c.loop-at-test.true
    c.loop-at.invariant (sym c.has_label.ensures ∙ c.if-has_label.false)
