use Rattle.std.proofs.Common.{◌&&◌, ap}
use Rattle.std.specs.Prelude.{nat_lt}
use Rattle.std.specs.List.{list_any}
use Rattle.surface_model.specs.Schedules.{PatchLine}
use Rattle.surface_model.specs.Rules.{same_tile}
use Rattle.schedule_rules.proofs.Broken.{turn}
use Rattle.schedule_rules.proofs.rules.taken_tile.Goals as goal

pub loop-patch-preserved : goal.loop-patch-preserved
loop-patch-preserved c =
    turn (λ (x : PatchLine). x.line) (λ x. list_any (λ b. nat_lt b.line x.line && same_tile x b)
    c.args.patches.now) c.args.patches.now c.loop-patch.patch-index c.patch-item.result
    c.is_taken.result c.patch.inside.line c.loop-patch.least c.lesser_where-least.result
    c.loop-patch-test.true c.patch-item.is
    c.is_taken.ensures (ap (λ (x : PatchLine). x.line) c.patch.view_is) c.loop-patch.invariant
    c.lesser_where-least.ensures
