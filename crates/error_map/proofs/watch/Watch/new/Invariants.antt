use Rattle.std.proofs.Common.{◌≡◌, flat_map}
use Rattle.std.specs.List.{range_with_len}
use Rattle.error_map.specs.Watched.{observable_keys}
use Rattle.error_map.proofs.watch.Watch.new.Given as goal

abbrev pub invariant-loop-number : goal.invariant-loop-number
invariant-loop-number l =
    l.keys.items ≡ flat_map (observable_keys l.map) (range_with_len 0 l.number)
