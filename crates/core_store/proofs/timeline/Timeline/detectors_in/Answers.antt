use Rattle.std.proofs.Common.{◌≡◌, ◌+◌, length, ap, ◌∙◌, subst}
use Rattle.window_model.specs.Decoder.{Task}
use Rattle.window_setting.specs.Slots.{at_slot, detector_slots}
use Rattle.window_setting.proofs.Rows.{row_is}
use Rattle.core_store.proofs.timeline.Timeline.detectors_in.Goals as goal

pub returns : goal.returns
returns c =
    let t = c.self.inside in
    subst (λ (task : Task). length c.row.result.now
    ≡ length (at_slot (detector_slots task) c.args.slot)) c.self.view_is
    (ap length (row_is (detector_slots t.setting) (t.setting.last_slot + 1) c.args.slot
    t.detectors.rows c.row.result.now c.self.invariant.detector_rows c.row.ensures))
