use Rattle.std.proofs.Common.{not, ap, ◌∙◌}
use Rattle.surface_model.specs.Schedules.{MergeLine, Schedule}
use Rattle.surface_model.specs.Layout.{patch_at}
use Rattle.surface_model.specs.Rules.{are_neighbours}
use Rattle.schedule_rules.proofs.Broken.{turn_of}
use Rattle.schedule_rules.proofs.rules.not_neighbours.Goals as goal

pub loop-merge-preserved : goal.loop-merge-preserved
loop-merge-preserved c =
    turn_of (λ (x : MergeLine). x.line) (λ x. not
    (are_neighbours (patch_at c.args.schedule.now x.one) (patch_at c.args.schedule.now x.two)))
    c.deref-merge-items.result.now c.args.schedule.now.merges (c.deref-merge-items.ensures.value
    ∙ ap (λ (s : Schedule). s.merges) c.schedule.view_is) c.loop-merge.merge-index
    c.merge-item.result (not c.joins_neighbours.result) c.merge.inside.line c.loop-merge.least
    c.lesser_where-least.result c.loop-merge-test.true c.merge-item.is
    (ap not c.joins_neighbours.ensures) (ap (λ (x : MergeLine). x.line) c.merge.view_is)
    c.loop-merge.invariant c.lesser_where-least.ensures
