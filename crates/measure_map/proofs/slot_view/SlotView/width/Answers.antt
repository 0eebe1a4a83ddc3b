use Rattle.std.proofs.Common.{◌<◌, ◌^◌, length, rules}
use Rattle.slot_bits.specs.Seen.{bit_of}
use Rattle.measure_map.proofs.Slotwise.{few_in_line}
use Rattle.measure_map.proofs.slot_view.SlotView.width.Goals as goal

pub overflow_cast-result : goal.overflow_cast-result
overflow_cast-result c =
    let small : length c.self.inside.bits.now < 2 ^ 32 =
    few_in_line bit_of c.self.inside.schedule.now c.self.invariant.accepted.ranges
    c.self.inside.slot c.self.inside.bits.now c.self.invariant.bits in
    search (rules, small)
