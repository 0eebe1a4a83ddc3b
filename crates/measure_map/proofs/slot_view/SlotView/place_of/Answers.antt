use Rattle.std.proofs.Common.{◌∙◌, ap, subst, sym}
use Rattle.std.specs.Prelude.{position}
use Rattle.surface_model.specs.Measurements.{bits_of_slot, same_bit}
use Rattle.slot_bits.specs.Order.{IsRising}
use Rattle.slot_bits.specs.Seen.{bit_of}
use Rattle.measure_map.specs.Seen.{SlotOf}
use Rattle.slot_bits.proofs.Lines.{slot_rising}
use Rattle.measure_map.proofs.Slotwise.{few_in_line}
use Rattle.measure_map.proofs.slot_view.SlotView.place_of.Goals as goal

pub place_of-requires-clause-rising : goal.place_of-requires-clause-rising
place_of-requires-clause-rising c =
    subst IsRising (sym c.self.invariant.bits)
    (slot_rising c.self.inside.schedule.now c.self.inside.slot)

pub place_of-requires-clause-few : goal.place_of-requires-clause-few
place_of-requires-clause-few c =
    few_in_line bit_of c.self.inside.schedule.now c.self.invariant.accepted.ranges
    c.self.inside.slot c.self.inside.bits.now c.self.invariant.bits

pub returns : goal.returns
returns c =
    c.place_of.ensures ∙ ap (position (same_bit (bit_of c.args.bit.now))) (c.self.invariant.bits
    ∙ ap (λ (v : SlotOf). bits_of_slot v.schedule v.slot) c.self.view_is)
