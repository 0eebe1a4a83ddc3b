use Rattle.std.proofs.Common.{◌&&◌, not, ap, ◌∙◌}
use Rattle.std.specs.Prelude.{nat_lt}
use Rattle.surface_model.specs.Schedules.{MergeLine, Schedule}
use Rattle.surface_model.specs.Layout.{split_slot}
use Rattle.surface_model.specs.Rules.{of_life}
use Rattle.schedule_rules.proofs.Broken.{turn_of}
use Rattle.schedule_rules.proofs.rules.outside_life.Goals as goal

pub loop-merge-preserved : goal.loop-merge-preserved
loop-merge-preserved c =
    turn_of (λ (x : MergeLine). x.line) (λ x. not (of_life c.args.schedule.now (λ first last.
    nat_lt first x.slot && nat_lt (split_slot x) last) x.one && of_life c.args.schedule.now
    (λ first last. nat_lt first x.slot && nat_lt (split_slot x) last) x.two))
    c.deref-merge-items.result.now c.args.schedule.now.merges (c.deref-merge-items.ensures.value
    ∙ ap (λ (s : Schedule). s.merges) c.schedule.view_is) c.loop-merge.merge-index
    c.merge-item.result (not c.is_within.result) c.merge.inside.line c.loop-merge.least
    c.lesser_where-least.result c.loop-merge-test.true c.merge-item.is
    (ap not c.is_within.ensures) (ap (λ (x : MergeLine). x.line) c.merge.view_is)
    c.loop-merge.invariant c.lesser_where-least.ensures
