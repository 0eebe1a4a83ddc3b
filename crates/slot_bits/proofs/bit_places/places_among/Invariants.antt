use Rattle.std.proofs.Common.{◌≡◌, map, take}
use Rattle.slot_bits.specs.Seen.{bits_of}
use Rattle.slot_bits.specs.Watched.{place_in}
use Rattle.slot_bits.proofs.bit_places.places_among.Given as goal

abbrev pub invariant-loop-bit : goal.invariant-loop-bit
invariant-loop-bit l =
    l.places.items ≡ map (place_in (bits_of l.all)) (bits_of (take l.bit-index l.bits))
