use Rattle.std.proofs.Common.{◌&&◌, ◌||◌, not, ap, ◌∙◌}
use Rattle.std.specs.Prelude.{nat_le}
use Rattle.surface_model.specs.Schedules.{CondLine, Schedule}
use Rattle.surface_model.specs.Rules.{of_life, has_repeats}
use Rattle.schedule_rules.proofs.Broken.{turn_of}
use Rattle.schedule_rules.proofs.rules.bad_cond.Goals as goal

pub loop-cond-preserved : goal.loop-cond-preserved
loop-cond-preserved c =
    turn_of (λ (x : CondLine). x.line) (λ x. has_repeats x.labels || not (of_life
    c.args.schedule.now (λ first last. nat_le first x.slot && nat_le x.slot last) x.patch))
    c.deref-cond-items.result.now c.args.schedule.now.conds (c.deref-cond-items.ensures.value
    ∙ ap (λ (s : Schedule). s.conds) c.schedule.view_is) c.loop-cond.cond-index
    c.cond-item.result c.is_bad.result c.cond.inside.line c.loop-cond.least
    c.lesser_where-least.result c.loop-cond-test.true c.cond-item.is
    c.is_bad.ensures (ap (λ (x : CondLine). x.line) c.cond.view_is) c.loop-cond.invariant
    c.lesser_where-least.ensures
