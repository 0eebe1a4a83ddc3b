use Rattle.std.proofs.Common.{flat_map, map, refl, ap, ◌∙◌, arith}
use Rattle.error_map.specs.Active.{key_place}
use Rattle.error_map.specs.Keys.{region_keys}
use Rattle.error_map.proofs.Alive.{are_qubits}
use Rattle.error_map.proofs.Loops.{take_whole}
use Rattle.error_map.proofs.active.qubits_of.Goals as goal

pub returns : goal.returns
returns c =
    are_qubits c.args.regions.now c.loop-region.keys.items c.distinct-keys.result.items
    (c.loop-region.invariant
    ∙ ap (flat_map (region_keys 0))
    (take_whole c.args.regions.now c.args.regions.now refl c.loop-region.region-index
    (omega arith))) c.distinct-keys.ensures
    c.loop-key.qubits.items (c.loop-key.invariant
    ∙ ap (map key_place) (take_whole c.deref-key-items.result.now c.deref-key-items.result.now
    refl c.loop-key.key-index (omega arith) ∙ c.deref-key-items.ensures.value))
