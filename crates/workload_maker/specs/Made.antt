-- What is reported where a schedule has no map.
use Rattle.measure_map.specs.declared.types.MapError.{MapError}
use Rattle.measure_map.specs.declared.types.MapError.TheVariants as map
use Rattle.workload_maker.specs.declared.make_error.MakeError.{MakeError}
use Rattle.workload_maker.specs.declared.make_error.MakeError.TheVariants.{TooLarge, Memory}

abbrev pub of_map : MapError → MakeError
of_map (map.TooLarge detectors) = TooLarge detectors
of_map map.Memory = Memory
