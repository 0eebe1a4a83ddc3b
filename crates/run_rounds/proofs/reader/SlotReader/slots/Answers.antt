use Rattle.std.proofs.Common.{arith}
use Rattle.surface_model.proofs.Ranges.{few_slots}
use Rattle.run_rounds.proofs.reader.SlotReader.slots.Goals as goal

pub overflow_add-result : goal.overflow_add-result
overflow_add-result c = let few = few_slots c.self.inside.program.now
    c.self.invariant.accepted.ranges in omega (arith, few, c.self.invariant.last_is)
