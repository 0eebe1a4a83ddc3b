use Rattle.std.proofs.Common.{arith}
use Rattle.surface_model.proofs.Ranges.{few_slots}
use Rattle.run_rounds.proofs.reader.SlotReader.line.Goals as goal

pub overflow_add-result : goal.overflow_add-result
overflow_add-result c =
    let few = few_slots c.self.inside.program.now c.self.invariant.accepted.ranges in
    omega (arith, few, c.self.invariant.first_is, c.self.invariant.lines, c.self.invariant.in_range)

pub returns-clause-small : goal.returns-clause-small
returns-clause-small c =
    let few = few_slots c.self.inside.program.now c.self.invariant.accepted.ranges in
    omega (arith, few, c.self.invariant.first_is, c.self.invariant.lines, c.self.invariant.in_range)
