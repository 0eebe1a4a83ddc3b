use Rattle.std.proofs.Common.{◌∙◌, ◌<◌, All, subst, sym}
use Rattle.timetable.proofs.Lined.{patches_known, readings_are}
use Rattle.timetable.proofs.lines.readings.Goals as goal

pub grouped-requires-clause-groups : goal.grouped-requires-clause-groups
grouped-requires-clause-groups c =
    subst (λ n. All (λ p. p < n) c.deref.result.now) (sym c.patch_count.ensures) (patches_known
    c.args.schedule.now c.deref.result.now c.requires.ranges (c.deref.ensures.value
    ∙ c.in_ok-patches.ensures))

pub returns : goal.returns
returns c = readings_are c.args.schedule.now c.deref.result.now c.in_ok-rows.rows.rows
    (c.deref.ensures.value ∙ c.in_ok-patches.ensures) (c.in_ok-rows.ensures.count
    ∙ c.patch_count.ensures) c.in_ok-rows.ensures.rows
