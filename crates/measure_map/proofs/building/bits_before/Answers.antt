use Rattle.std.proofs.Common.{arith}
use Rattle.slot_bits.specs.Seen.{bits_of}
use Rattle.measure_map.proofs.Slotwise.{earlier_line}
use Rattle.measure_map.proofs.building.bits_before.Goals as goal

pub returns : goal.returns
returns c = earlier_line c.args.bits.now c.args.slot (bits_of c.of_slot.result.now)
    (omega (arith, c.if-slot-eq0.false)) c.of_slot.ensures
