use Rattle.std.proofs.Common.{◌≡◌, map, take}
use Rattle.graph_model.specs.Parity.{parity}
use Rattle.slot_bits.specs.Seen.{bit_of}
use Rattle.error_map.specs.Sees.{sees_place}
use Rattle.error_map.proofs.masks.is_odd.Given as goal

abbrev pub invariant-loop-place : goal.invariant-loop-place
invariant-loop-place l =
    l.odd ≡ parity (sees_place l.effect l.slot (map bit_of l.line)) (take l.place-index l.places)
