use Rattle.std.proofs.Common.{◌≡◌, map}
use Rattle.std.specs.List.{range_with_len}
use Rattle.surface_model.specs.Measurements.{bits_of_slot}
use Rattle.measure_map.proofs.building.bits_of_slots.Given as goal

abbrev pub invariant-loop-slot : goal.invariant-loop-slot
invariant-loop-slot l = l.bits ≡ map (bits_of_slot l.schedule) (range_with_len 0 l.slot)
