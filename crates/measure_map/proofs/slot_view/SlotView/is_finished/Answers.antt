use Rattle.std.proofs.Common.{◌==◌, ap, ◌∙◌}
use Rattle.std.specs.List.{list_any}
use Rattle.surface_model.specs.Schedules.{ReadLine, same_basis}
use Rattle.surface_model.specs.Layout.{is_check, kind, region_of_patch}
use Rattle.surface_model.specs.Measurements.{is_finished}
use Rattle.patch_layout.specs.Items.{read_line}
use Rattle.timetable.proofs.Found.{any_numbers}
use Rattle.measure_map.specs.Seen.{SlotOf}
use Rattle.measure_map.specs.Slots.{fixes}
use Rattle.measure_map.proofs.Detecting.{any_three}
use Rattle.measure_map.proofs.slot_view.SlotView.is_finished.Goals as goal

pub returns : goal.returns
returns c =
    let s = c.self.inside.schedule.now in let t = c.self.inside.slot in
    c.finishes.ensures
    ∙ ap (list_any (λ n. fixes s (read_line s n).patch (read_line s n).basis c.args.corner))
    (c.reads.ensures.lines s c.self.invariant.times)
    ∙ any_numbers (λ (line : ReadLine). fixes s line.patch line.basis c.args.corner) _
    (λ (line : ReadLine). line.slot == t) s.reads
    ∙ any_three (λ (line : ReadLine). line.slot == t)
    (λ (line : ReadLine). same_basis line.basis (kind c.args.corner))
    (λ (line : ReadLine). is_check (region_of_patch s line.patch) c.args.corner) s.reads
    ∙ ap (λ (v : SlotOf). is_finished v.schedule v.slot c.args.corner) c.self.view_is
