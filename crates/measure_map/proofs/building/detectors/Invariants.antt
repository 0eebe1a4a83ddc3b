use Rattle.std.proofs.Common.{◌≡◌, map}
use Rattle.std.specs.List.{filter_map, flat_map, range_with_len}
use Rattle.surface_model.specs.Layout.{board}
use Rattle.surface_model.specs.Measurements.{detector_at}
use Rattle.measure_map.specs.Placed.{placed_detector}
use Rattle.measure_map.proofs.building.detectors.Given as goal

abbrev pub invariant-loop-slot : goal.invariant-loop-slot
invariant-loop-slot l =
    l.detectors.items
    ≡ map (placed_detector l.schedule)
    (flat_map (λ t. filter_map (detector_at l.schedule t) (board l.schedule))
    (range_with_len 0 l.slot))
