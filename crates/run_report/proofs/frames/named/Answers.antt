use Rattle.std.proofs.lemmas.Simd.{map-map}
use Rattle.measure_map.specs.Placed.{map_of, placed_observable}
use Rattle.surface_model.specs.Measurements.{observables}
use Rattle.run_report.specs.Names.{printed_name}
use Rattle.run_report.proofs.frames.named.Goals as goal

pub returns : goal.returns
unfolding map_of
returns c s = map-map printed_name (placed_observable s) (observables s)
