use Rattle.std.proofs.Common.{◌+◌, ◌∙◌, arith}
use Rattle.surface_model.specs.Layout.{last_slot}
use Rattle.timetable.proofs.Timed.{slots_are}
use Rattle.slot_bits.specs.Seen.{bits_of}
use Rattle.measure_map.proofs.Slotwise.{before_at, line_at, many_lines}
use Rattle.measure_map.proofs.building.view_of.Goals as goal

pub bits_before-before-requires : goal.bits_before-before-requires
bits_before-before-requires c =
    let s = c.args.schedule.now in
    omega (
      arith,
      c.requires.slot,
      slots_are s c.args.times.now c.requires.times,
      many_lines s (last_slot s + 1) c.args.bits.now c.requires.bits,
    )

pub of_slot-requires : goal.of_slot-requires
of_slot-requires c =
    let s = c.args.schedule.now in
    omega (
      arith,
      c.requires.slot,
      slots_are s c.args.times.now c.requires.times,
      many_lines s (last_slot s + 1) c.args.bits.now c.requires.bits,
    )

pub new-requires-clause-before : goal.new-requires-clause-before
new-requires-clause-before c =
    let s = c.args.schedule.now in
    let long = slots_are s c.args.times.now c.requires.times in
    c.bits_before-before.ensures
    ∙ before_at s (last_slot s + 1) c.args.bits.now c.requires.bits c.args.slot
    (omega (arith, c.requires.slot, long))

pub new-requires-clause-bits : goal.new-requires-clause-bits
new-requires-clause-bits c =
    let s = c.args.schedule.now in
    line_at s (last_slot s + 1) c.args.bits.now c.requires.bits c.args.slot
    (bits_of c.of_slot.result.now) c.of_slot.ensures
