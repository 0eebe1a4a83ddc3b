use Rattle.std.proofs.Common.{◌==◌, ap, ◌∙◌}
use Rattle.std.specs.List.{list_any}
use Rattle.surface_model.specs.Schedules.{InitLine, same_basis}
use Rattle.surface_model.specs.Layout.{is_check, kind, region_of_patch}
use Rattle.surface_model.specs.Measurements.{is_prepared}
use Rattle.patch_layout.specs.Items.{init_line}
use Rattle.timetable.proofs.Found.{any_numbers}
use Rattle.measure_map.specs.Seen.{SlotOf}
use Rattle.measure_map.specs.Slots.{fixes}
use Rattle.measure_map.proofs.Detecting.{any_three}
use Rattle.measure_map.proofs.slot_view.SlotView.is_prepared.Goals as goal

pub returns : goal.returns
returns c =
    let s = c.self.inside.schedule.now in let t = c.self.inside.slot in
    c.prepares.ensures
    ∙ ap (list_any (λ n. fixes s (init_line s n).patch (init_line s n).basis c.args.corner))
    (c.inits.ensures.lines s c.self.invariant.times)
    ∙ any_numbers (λ (line : InitLine). fixes s line.patch line.basis c.args.corner) _
    (λ (line : InitLine). line.slot == t) s.inits
    ∙ any_three (λ (line : InitLine). line.slot == t)
    (λ (line : InitLine). same_basis line.basis (kind c.args.corner))
    (λ (line : InitLine). is_check (region_of_patch s line.patch) c.args.corner) s.inits
    ∙ ap (λ (v : SlotOf). is_prepared v.schedule v.slot c.args.corner) c.self.view_is
