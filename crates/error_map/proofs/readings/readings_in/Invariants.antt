use Rattle.std.proofs.Common.{◌≡◌, ◌++◌, flat_map, take}
use Rattle.error_map.specs.Readings.{read_keys, split_keys}
use Rattle.error_map.proofs.readings.readings_in.Given as goal

abbrev pub invariant-loop-read : goal.invariant-loop-read
invariant-loop-read l =
    l.keys.items ≡ flat_map (read_keys l.schedule l.wanted l.basis)
    (take l.read-index l.schedule.reads)

abbrev pub invariant-loop-merge : goal.invariant-loop-merge
invariant-loop-merge l =
    l.keys.items ≡ flat_map (read_keys l.schedule l.wanted l.basis) l.schedule.reads
    ++ flat_map (split_keys l.schedule l.wanted l.basis) (take l.merge-index l.schedule.merges)
