use Rattle.std.proofs.Common.{◌<◌, refl, sym, ap, ◌∙◌, subst, length}
use Rattle.window_model.specs.Decoder.{Task}
use Rattle.window_setting.specs.Settings.{task_for}
use Rattle.window_setting.specs.Slots.{last_raw}
use Rattle.window_setting.proofs.Named.{last_raw_is}
use Rattle.window_setting.proofs.setting.Setting.last_raw.Goals as goal

pub returns : goal.returns
returns c =
    let d = c.self.inside in
    let task = task_for d.graph d.tags.items d.plan.plan d.ops.items d.raws.items d.last_slot in
    let within = subst (λ (t : Task). c.args.op < length t.operations) (sym c.self.view_is)
    c.requires in
    c.last_raw.ensures ∙ last_raw_is task d.ops.items c.args.op c.index-spec.result.now refl
    c.self.invariant.is_task.raw_slots within c.index-spec.ensures
    ∙ ap (λ (t : Task). last_raw t c.args.op) c.self.view_is
