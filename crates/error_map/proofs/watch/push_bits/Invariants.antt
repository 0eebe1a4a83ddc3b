use Rattle.std.proofs.Common.{◌≡◌, ◌++◌, flat_map, map, take}
use Rattle.slot_bits.specs.Seen.{bit_of}
use Rattle.error_map.specs.Watched.{bit_keys}
use Rattle.error_map.proofs.watch.push_bits.Given as goal

abbrev pub invariant-loop-place : goal.invariant-loop-place
invariant-loop-place l =
    l.keys.items ≡ l.initial.keys.items ++ flat_map (bit_keys l.number (map bit_of l.line))
    (take l.place-index l.places)
