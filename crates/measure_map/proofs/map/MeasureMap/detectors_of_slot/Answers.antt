use Rattle.std.proofs.Common.{arith}
use Rattle.measure_map.proofs.Mapped.{few_slots_in_map}
use Rattle.measure_map.proofs.map.MeasureMap.detectors_of_slot.Goals as goal

pub overflow_add-slot : goal.overflow_add-slot
overflow_add-slot c = let few = few_slots_in_map c.args.self.now c.is_map.ensures in
    omega (arith, few, c.requires)
