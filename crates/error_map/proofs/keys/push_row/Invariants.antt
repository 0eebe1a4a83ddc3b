use Rattle.std.proofs.Common.{◌≡◌, ◌++◌, map}
use Rattle.std.specs.List.{range_with_len}
use Rattle.error_map.specs.Keys.{key_of}
use Rattle.error_map.proofs.keys.push_row.Given as goal

abbrev pub invariant-loop-right : goal.invariant-loop-right
invariant-loop-right l =
    l.keys.items ≡ l.initial.keys.items ++ map (key_of l.number)
    (map (λ j. record { row = l.row; column = j }) (range_with_len l.col l.right))
