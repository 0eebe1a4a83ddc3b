use Rattle.std.proofs.Common.{length, ◌-◌, ◌+◌}
use Rattle.slot_bits.proofs.Searching.{Merging}
use Rattle.slot_bits.proofs.order.union.Given as goal

abbrev pub invariant-loop-first : goal.invariant-loop-first
invariant-loop-first l = Merging l.one l.two l.bits.items l.first l.second

abbrev pub decreases-loop-first : goal.decreases-loop-first
decreases-loop-first l = (length l.one - l.first) + (length l.two - l.second)
