use Rattle.std.proofs.Common.{◌≡◌, length, map, take}
use Rattle.graph_model.specs.Parity.{parity}
use Rattle.measure_map.specs.Placed.{PlacedDetector, slot_value}
use Rattle.measure_map.proofs.fold.defects_of.Given as goal

abbrev pub invariant-loop-at : goal.invariant-loop-at
invariant-loop-at l =
    (length l.bits ≡ length l.detectors)
    × (take l.at l.bits
    ≡ map (λ (d : PlacedDetector). parity (slot_value l.slot l.before l.row) d.bits)
    (take l.at l.detectors))
