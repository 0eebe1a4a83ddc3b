use Rattle.std.proofs.Common.{◌≡◌, ◌++◌, map, flat_map}
use Rattle.std.specs.List.{range_with_len}
use Rattle.error_map.specs.Keys.{key_of}
use Rattle.error_map.proofs.keys.push_region.Given as goal

abbrev pub invariant-loop-down : goal.invariant-loop-down
invariant-loop-down l =
    l.keys.items ≡ l.initial.keys.items ++ map (key_of l.number)
    (flat_map (λ i. map (λ j. record { row = i; column = j })
    (range_with_len l.region-inside.col l.region-inside.width))
    (range_with_len l.region-inside.row l.down))
