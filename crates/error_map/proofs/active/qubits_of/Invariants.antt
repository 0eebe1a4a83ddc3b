use Rattle.std.proofs.Common.{◌≡◌, flat_map, map, take}
use Rattle.error_map.specs.Active.{key_place}
use Rattle.error_map.specs.Keys.{region_keys}
use Rattle.error_map.proofs.active.qubits_of.Given as goal

abbrev pub invariant-loop-region : goal.invariant-loop-region
invariant-loop-region l = l.keys.items ≡ flat_map (region_keys 0) (take l.region-index l.regions)

abbrev pub invariant-loop-key : goal.invariant-loop-key
invariant-loop-key l = l.qubits.items ≡ map key_place (take l.key-index l.key-items)
