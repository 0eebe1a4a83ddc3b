-- A detector, with its bits.
use Rattle.std.specs.Prelude.{◌-◌, [], ◌∷◌}
use Rattle.measure_map.specs.Placed.{PlacedDetector}
use Rattle.measure_map.specs.declared.types.DetectorKind.{DetectorKind}
use Rattle.measure_map.specs.declared.types.DetectorKind.TheVariants.{Lasting, Found}

abbrev pub detector_in : DetectorKind → PlacedDetector
detector_in (Lasting tag corner place) = record {
  tag = tag;
  corner = corner;
  bits = (tag.slot, place) ∷ (tag.slot - 1, place) ∷ [];
}
detector_in (Found found) = record {
  tag = found.value.tag;
  corner = found.value.corner;
  bits = found.value.bits.items;
}
