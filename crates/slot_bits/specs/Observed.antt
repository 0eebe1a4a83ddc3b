-- Observables, with each bit named by where it stands in its slot's line.
use Rattle.std.specs.Prelude.{ℕ, Bool, List, map, position, unwrap_or}
use Rattle.surface_model.specs.Schedules.{Schedule}
use Rattle.surface_model.specs.Measurements.{Measurement, Observable, bits_of_slot, same_bit}

-- an observable: the label of its line, whether it is the seam's of a merge, the slot of its bits,
-- and their places in that slot's line
pub record PlacedObservable : Type 0 where
  pub name : List ℕ
  pub seam : Bool
  pub slot : ℕ
  pub places : List ℕ

-- the place of a measurement's bit in its slot's line, where each bit of a detector or an
-- observable has one
abbrev pub place_of : Schedule → Measurement → ℕ
place_of s m = unwrap_or (position (same_bit m.bit) (bits_of_slot s m.slot)) 0

abbrev pub placed_observable : Schedule → Observable → PlacedObservable
placed_observable s o =
    record { name = o.name; seam = o.seam; slot = o.slot; places = map (place_of s) o.bits }
