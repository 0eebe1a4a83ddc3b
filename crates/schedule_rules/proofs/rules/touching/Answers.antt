use Rattle.std.proofs.Common.{◌&&◌, ap}
use Rattle.std.specs.Prelude.{nat_lt}
use Rattle.std.specs.List.{list_any}
use Rattle.surface_model.specs.Schedules.{MergeLine}
use Rattle.surface_model.specs.Rules.{share_a_patch, share_a_slot}
use Rattle.schedule_rules.proofs.Broken.{turn}
use Rattle.schedule_rules.proofs.rules.touching.Goals as goal

pub loop-merge-preserved : goal.loop-merge-preserved
loop-merge-preserved c =
    turn (λ (x : MergeLine). x.line) (λ x. list_any (λ b. nat_lt b.line x.line && share_a_patch x b
    && share_a_slot x b) c.args.merges.now) c.args.merges.now c.loop-merge.merge-index
    c.merge-item.result c.touches.result c.merge.inside.line c.loop-merge.least
    c.lesser_where-least.result c.loop-merge-test.true c.merge-item.is
    c.touches.ensures (ap (λ (x : MergeLine). x.line) c.merge.view_is) c.loop-merge.invariant
    c.lesser_where-least.ensures
