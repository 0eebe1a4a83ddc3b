use Rattle.std.proofs.Common.{◌≡◌, ◌++◌, take}
use Rattle.std.specs.List.{flat_map}
use Rattle.surface_model.specs.Measurements.{bits_of_slot}
use Rattle.measure_map.specs.Placed.{detectors_of}
use Rattle.measure_map.proofs.detect.push_all_lasting.Given as goal

abbrev pub invariant-loop-place : goal.invariant-loop-place
invariant-loop-place l =
    l.detectors.items ≡ l.initial.detectors.items
    ++ flat_map (detectors_of l.view.schedule l.view.slot)
    (take l.place (bits_of_slot l.view.schedule l.view.slot))
