use Rattle.std.proofs.Common.{◌≡◌, ◌++◌, [], take, get_or}
use Rattle.slot_bits.specs.Seen.{bits_of}
use Rattle.error_map.specs.Sees.{changed_among}
use Rattle.error_map.proofs.changes.push_changes.Given as goal

abbrev pub invariant-loop-bit : goal.invariant-loop-bit
invariant-loop-bit l =
    l.bits.items ≡ l.initial.bits.items ++ changed_among l.effect l.slot
    (get_or l.map.lines l.slot []) (bits_of (take l.bit-index l.near))
