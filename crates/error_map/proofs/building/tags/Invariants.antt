use Rattle.std.proofs.Common.{◌≡◌, map, take}
use Rattle.measure_map.specs.Placed.{PlacedDetector}
use Rattle.error_map.proofs.building.tags.Given as goal

abbrev pub invariant-loop-detector : goal.invariant-loop-detector
invariant-loop-detector l =
    l.tags.items ≡ map (λ (d : PlacedDetector). d.tag) (take l.detector-index l.detectors)
