-- A map, with the number of each slot's first detector.
use Rattle.std.specs.Prelude.{◌≡◌, ◌≤◌, ◌+◌, ℕ, List, length, map}
use Rattle.std.specs.List.{range_with_len}
use Rattle.surface_model.specs.Layout.{last_slot}
use Rattle.surface_model.specs.Limits.{most_detectors}
use Rattle.measure_map.specs.Placed.{IsMap, Placed}
use Rattle.measure_map.specs.Slots.{detectors_before}

pub record IsIndexed (m : Placed) (starts : List ℕ) : Type 0 where
  pub map_is : IsMap m
  pub few : length m.detectors ≤ most_detectors
  pub starts_are : starts ≡ map (λ t. length (detectors_before map_is.schedule t))
      (range_with_len 0 (last_slot map_is.schedule + 1))
