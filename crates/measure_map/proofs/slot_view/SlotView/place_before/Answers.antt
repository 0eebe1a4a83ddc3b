use Rattle.std.proofs.Common.{◌∙◌, ap, subst, sym}
use Rattle.std.specs.Prelude.{position}
use Rattle.surface_model.specs.Measurements.{same_bit}
use Rattle.slot_bits.specs.Order.{IsRising}
use Rattle.slot_bits.specs.Seen.{bit_of}
use Rattle.measure_map.specs.Seen.{SlotOf}
use Rattle.slot_bits.specs.Lines.{bits_before}
use Rattle.slot_bits.proofs.Lines.{before_rising}
use Rattle.measure_map.proofs.Slotwise.{few_before}
use Rattle.measure_map.proofs.slot_view.SlotView.place_before.Goals as goal

pub place_of-requires-clause-rising : goal.place_of-requires-clause-rising
place_of-requires-clause-rising c =
    subst IsRising (sym c.self.invariant.before)
    (before_rising c.self.inside.schedule.now c.self.inside.slot)

pub place_of-requires-clause-few : goal.place_of-requires-clause-few
place_of-requires-clause-few c =
    few_before bit_of c.self.inside.schedule.now c.self.invariant.accepted.ranges c.self.inside.slot
    c.self.inside.before.now c.self.invariant.before

pub returns : goal.returns
returns c =
    c.place_of.ensures ∙ ap (position (same_bit (bit_of c.args.bit.now))) (c.self.invariant.before
    ∙ ap (λ (v : SlotOf). bits_before v.schedule v.slot) c.self.view_is)
