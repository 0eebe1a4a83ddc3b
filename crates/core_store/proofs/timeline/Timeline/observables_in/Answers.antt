use Rattle.std.proofs.Common.{◌≡◌, ◌+◌, length, ap, ◌∙◌, subst}
use Rattle.window_model.specs.Decoder.{Task}
use Rattle.window_setting.specs.Slots.{at_slot}
use Rattle.window_setting.proofs.Rows.{row_is}
use Rattle.core_store.proofs.timeline.Timeline.observables_in.Goals as goal

pub returns : goal.returns
returns c =
    let t = c.self.inside in
    subst (λ (task : Task). length c.row.result.now
    ≡ length (at_slot task.raw_slots c.args.slot)) c.self.view_is
    (ap length (row_is t.setting.raw_slots (t.setting.last_slot + 1) c.args.slot t.observables.rows
    c.row.result.now c.self.invariant.observable_rows c.row.ensures))
