use Rattle.std.proofs.Common.{length, ◌-◌, ◌≤◌}
use Rattle.slot_bits.specs.Order.{rank_of}
use Rattle.slot_bits.specs.Seen.{bit_of, bits_of}
use Rattle.slot_bits.proofs.order.count_before.Given as goal

abbrev pub invariant-loop-low : goal.invariant-loop-low
invariant-loop-low l = (l.high ≤ length l.bits) × (l.low ≤ rank_of (bits_of l.bits) (bit_of l.bit))
    × (rank_of (bits_of l.bits) (bit_of l.bit) ≤ l.high)

abbrev pub decreases-loop-low : goal.decreases-loop-low
decreases-loop-low l = l.high - l.low
