use Rattle.std.proofs.Common.{sym, ap, ◌∙◌, arith, slice_get}
use Rattle.measure_map.specs.Placed.{Placed}
use Rattle.slot_bits.specs.Seen.{bit_of}
use Rattle.measure_map.proofs.Mapped.{few_in_map, length_in_map}
use Rattle.measure_map.proofs.map.MeasureMap.width.Goals as goal

pub overflow_cast-result : goal.overflow_cast-result
overflow_cast-result c = let few = few_in_map bit_of _ c.self.invariant.map_is c.args.slot
    c.of_slot.result.now c.of_slot.ensures in omega (arith, few)

pub returns : goal.returns
returns c = length_in_map bit_of c.args.self.now.lines c.args.slot c.of_slot.result.now
    (sym (ap (λ (m : Placed). slice_get m.lines c.args.slot) c.self.view_is) ∙ c.of_slot.ensures)
