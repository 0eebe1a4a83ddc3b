use Rattle.std.proofs.Common.{◌≡◌, ◌+◌, ◌∙◌, ap, arith, length, map}
use Rattle.std.specs.List.{range_with_len}
use Rattle.surface_model.specs.Layout.{last_slot}
use Rattle.surface_model.proofs.Ranges.{few_slots}
use Rattle.measure_map.specs.Slots.{detectors_before}
use Rattle.measure_map.proofs.Slotwise.{more_lines}
use Rattle.measure_map.proofs.building.count.Goals as goal

pub overflow_cast-counted : goal.overflow_cast-counted
overflow_cast-counted c =
    let s = c.args.schedule.now in
    let few = few_slots s c.requires.accepted.ranges in
    let last = c.slots-slot-end.ensures.last s c.requires.times in
    omega (arith, few, last, c.loop-slot-test.true, c.loop-slot.invariant.few)

pub with_slot-requires-clause-slots : goal.with_slot-requires-clause-slots
with_slot-requires-clause-slots c =
    let s = c.args.schedule.now in
    let few = few_slots s c.requires.accepted.ranges in
    let last = c.slots-slot-end.ensures.last s c.requires.times in
    omega (arith, few, last, c.loop-slot-test.true)

pub loop-slot-preserved : goal.loop-slot-preserved
loop-slot-preserved c =
    let s = c.args.schedule.now in
    record {
      count = c.in_ok-counted.ensures.count;
      bits = c.in_ok-counted.ensures.bits;
      few = c.in_ok-counted.ensures.few;
      starts = more_lines (λ t. length (detectors_before s t)) c.loop-slot.starts.items
          c.push.new.self.items _ c.loop-slot.slot c.in_ok-push.ensures.items
          c.loop-slot.invariant.starts c.loop-slot.invariant.count;
    }

pub returns-clause-total : goal.returns-clause-total
returns-clause-total c =
    let s = c.args.schedule.now in
    let last = c.slots-slot-end.ensures.last s c.requires.times in
    let e : c.loop-slot.slot ≡ last_slot s + 1 =
    omega (arith, last, c.loop-slot.auto.slot-end, c.loop-slot-test.false) in
    c.loop-slot.invariant.count ∙ ap (λ n. length (detectors_before s n)) e

pub returns-clause-starts : goal.returns-clause-starts
returns-clause-starts c =
    let s = c.args.schedule.now in
    let last = c.slots-slot-end.ensures.last s c.requires.times in
    let e : c.loop-slot.slot ≡ last_slot s + 1 =
    omega (arith, last, c.loop-slot.auto.slot-end, c.loop-slot-test.false) in
    c.loop-slot.invariant.starts
    ∙ ap (λ n. map (λ t. length (detectors_before s t)) (range_with_len 0 n)) e
