use Rattle.std.proofs.Common.{◌≡◌, length, take}
use Rattle.measure_map.proofs.fold.bits_from.Given as goal

abbrev pub invariant-loop-at : goal.invariant-loop-at
invariant-loop-at l = (length l.bits ≡ length l.values) × (take l.at l.bits ≡ take l.at l.values)
