use Rattle.std.proofs.Common.{◌∙◌, ap}
use Rattle.surface_model.specs.Schedules.{Schedule}
use Rattle.slot_bits.proofs.Watching.{contains_at}
use Rattle.slot_bits.proofs.observe.push_line.Goals as goal

pub push_merge_at-requires : goal.push_merge_at-requires
push_merge_at-requires c =
    contains_at c.deref-merge-items.result.now c.args.places.now.merges c.loop-merge.merge-index
    c.merge-item.result
    (c.deref-merge-items.ensures.value ∙ ap (λ (x : Schedule). x.merges) (c.schedule.view_is
    ∙ c.schedule-schedule.ensures.schedule)) c.loop-merge-test.true c.merge-item.is

pub push_read_at-requires : goal.push_read_at-requires
push_read_at-requires c =
    contains_at c.deref-read-items.result.now c.args.places.now.reads c.loop-read.read-index
    c.read-item.result
    (c.deref-read-items.ensures.value ∙ ap (λ (x : Schedule). x.reads) (c.schedule.view_is
    ∙ c.schedule-schedule.ensures.schedule)) c.loop-read-test.true c.read-item.is
