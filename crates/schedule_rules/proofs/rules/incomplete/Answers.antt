use Rattle.std.proofs.Common.{◌&&◌, not, ap, map}
use Rattle.std.specs.Prelude.{is_some}
use Rattle.surface_model.specs.Schedules.{PatchLine}
use Rattle.surface_model.specs.Rules.{filter_numbered, init_of, read_of}
use Rattle.schedule_rules.specs.Least.{least}
use Rattle.schedule_rules.proofs.Broken.{numbered_turn}
use Rattle.schedule_rules.proofs.rules.incomplete.Goals as goal

pub loop-at-preserved : goal.loop-at-preserved
loop-at-preserved c =
    numbered_turn (λ (p : PatchLine). p.line) (λ n. not (is_some (init_of c.args.schedule.now n)
    && is_some (read_of c.args.schedule.now n))) c.args.patches.now c.loop-at.at
    c.index-patches-at.result (not c.is_complete.result) c.patch.inside.line
    c.loop-at.least c.lesser_where-least.result
    (least (map (λ (p : PatchLine). p.line) (filter_numbered (λ n. not (is_some (init_of
    c.args.schedule.now n) && is_some (read_of c.args.schedule.now n))) 0 c.args.patches.now)))
    c.loop-at-test.true c.index-patches-at.is (ap not c.is_complete.ensures) (ap (λ (p : PatchLine).
    p.line) c.patch.view_is) c.loop-at.invariant c.lesser_where-least.ensures
