use Rattle.std.proofs.Common.{◌++◌, ◌∙◌, flat_map, ap, arith}
use Rattle.surface_model.specs.Schedules.{Schedule}
use Rattle.error_map.specs.Readings.{read_keys, split_keys}
use Rattle.error_map.proofs.Loops.{take_whole}
use Rattle.error_map.proofs.ReadAt.{are_keys, are_readings}
use Rattle.error_map.proofs.readings.readings_in.Goals as goal

pub returns-clause-readings : goal.returns-clause-readings
returns-clause-readings c =
    let s = c.args.schedule.now in
    are_readings s c.requires c.args.wanted.now c.args.basis c.loop-merge.keys.items
    c.distinct.result.items
    (c.loop-merge.invariant
    ∙ ap (λ ms. flat_map (read_keys s c.args.wanted.now c.args.basis) s.reads
    ++ flat_map (split_keys s c.args.wanted.now c.args.basis) ms)
    (take_whole c.deref-merge-items.result.now s.merges (c.deref-merge-items.ensures.value
    ∙ ap (λ (x : Schedule). x.merges) c.schedule.view_is) c.loop-merge.merge-index
    (omega arith))) c.distinct.ensures

pub returns-clause-keys : goal.returns-clause-keys
returns-clause-keys c =
    let s = c.args.schedule.now in
    are_keys s c.requires c.args.wanted.now c.args.basis c.loop-merge.keys.items
    c.distinct.result.items
    (c.loop-merge.invariant
    ∙ ap (λ ms. flat_map (read_keys s c.args.wanted.now c.args.basis) s.reads
    ++ flat_map (split_keys s c.args.wanted.now c.args.basis) ms)
    (take_whole c.deref-merge-items.result.now s.merges (c.deref-merge-items.ensures.value
    ∙ ap (λ (x : Schedule). x.merges) c.schedule.view_is) c.loop-merge.merge-index
    (omega arith))) c.distinct.ensures
