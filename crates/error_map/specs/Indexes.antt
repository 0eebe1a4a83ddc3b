-- What the graph of a schedule is looked up in.
use Rattle.std.specs.Prelude.{◌≡◌, List}
use Rattle.surface_model.specs.Schedules.{Schedule}
use Rattle.surface_model.specs.Accepted.{IsAccepted}
use Rattle.measure_map.specs.Placed.{Placed, map_of}
use Rattle.error_map.specs.declared.types.Wanted.TheVariants.{Every}
use Rattle.error_map.specs.Readings.{AreOf, ReadKeys}
use Rattle.error_map.specs.Watched.{IsWatch}
use Rattle.error_map.specs.declared.keys.Key.{Key}

-- the map of an accepted schedule, the readings of every qubit, and the observables by their places
pub record AreIndexes (s : Schedule) (m : Placed) (read : ReadKeys)
    (watch : List Key) : Type 0 where
  pub accepted : IsAccepted s
  pub made : m ≡ map_of s
  pub readings : AreOf s Every read
  pub watched : IsWatch m watch
