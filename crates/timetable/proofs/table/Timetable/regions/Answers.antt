use Rattle.std.proofs.Common.{◌≡◌, ap, ◌∙◌}
use Rattle.std.proofs.lemmas.Result.{IfOk-weaker}
use Rattle.surface_model.specs.Layout.{regions_at}
use Rattle.timetable.specs.Items.{regions_of}
use Rattle.timetable.specs.Times.{alive_at}
use Rattle.timetable.proofs.Found.{regions_are}
use Rattle.timetable.proofs.table.Timetable.regions.Goals as goal

pub returns-clause-regions : goal.returns-clause-regions
returns-clause-regions c =
    let s = c.args.schedule.now in
    let t = c.args.slot in
    IfOk-weaker c.regions_of.result (λ v. v.items
    ≡ regions_of s c.alive.result.now c.merges.result.now) (λ v. v.items ≡ regions_at s t)
    (λ v h. h
    ∙ ap (λ ns. regions_of s ns c.merges.result.now) (c.alive.ensures.lines s c.requires.times)
    ∙ ap (λ ns. regions_of s (alive_at s t) ns) (c.merges.ensures.lines s c.requires.times)
    ∙ regions_are s t)
    c.regions_of.ensures.regions
