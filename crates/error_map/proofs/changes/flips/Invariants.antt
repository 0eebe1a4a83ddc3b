use Rattle.std.proofs.Common.{◌≡◌, flat_map}
use Rattle.std.specs.List.{range_with_len}
use Rattle.error_map.specs.Changes.{changed_at}
use Rattle.error_map.specs.Seen.{mechanism_of}
use Rattle.error_map.proofs.changes.flips.Given as goal

abbrev pub invariant-loop-slot : goal.invariant-loop-slot
invariant-loop-slot l =
    l.bits.items ≡ flat_map (changed_at l.program (mechanism_of l.fn.mechanism))
    (range_with_len 0 l.slot)
