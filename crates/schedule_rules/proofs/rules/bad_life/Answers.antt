use Rattle.std.proofs.Common.{not, ap, ◌∙◌}
use Rattle.std.specs.Prelude.{nat_lt}
use Rattle.surface_model.specs.Schedules.{ReadLine, Schedule}
use Rattle.surface_model.specs.Rules.{of_life}
use Rattle.schedule_rules.proofs.Broken.{turn_of}
use Rattle.schedule_rules.proofs.rules.bad_life.Goals as goal

pub loop-read-preserved : goal.loop-read-preserved
loop-read-preserved c =
    turn_of (λ (x : ReadLine). x.line) (λ x. not (of_life c.args.schedule.now nat_lt x.patch))
    c.deref-read-items.result.now c.args.schedule.now.reads (c.deref-read-items.ensures.value
    ∙ ap (λ (s : Schedule). s.reads) c.schedule.view_is) c.loop-read.read-index
    c.read-item.result (not c.lives.result) c.read.inside.line c.loop-read.least
    c.lesser_where-least.result c.loop-read-test.true c.read-item.is
    (ap not c.lives.ensures) (ap (λ (x : ReadLine). x.line) c.read.view_is) c.loop-read.invariant
    c.lesser_where-least.ensures
