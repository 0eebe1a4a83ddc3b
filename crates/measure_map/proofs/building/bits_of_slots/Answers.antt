use Rattle.std.proofs.Common.{◌≡◌, ◌+◌, ◌∙◌, ap, arith, map}
use Rattle.std.specs.List.{range_with_len}
use Rattle.surface_model.specs.Layout.{last_slot}
use Rattle.surface_model.specs.Measurements.{bits_of_slot}
use Rattle.surface_model.proofs.Ranges.{few_slots}
use Rattle.measure_map.proofs.building.bits_of_slots.Goals as goal

pub push_slot-requires-clause-slots : goal.push_slot-requires-clause-slots
push_slot-requires-clause-slots c =
    let s = c.args.schedule.now in
    let few = few_slots s c.requires.accepted.ranges in
    let last = c.slots-slot-end.ensures.last s c.requires.times in
    omega (arith, few, last, c.loop-slot-test.true)

pub returns : goal.returns
returns c =
    let s = c.args.schedule.now in
    let last = c.slots-slot-end.ensures.last s c.requires.times in
    let e : c.loop-slot.slot ≡ last_slot s + 1 =
    omega (arith, last, c.loop-slot.auto.slot-end, c.loop-slot-test.false) in
    c.loop-slot.invariant ∙ ap (λ n. map (bits_of_slot s) (range_with_len 0 n)) e
