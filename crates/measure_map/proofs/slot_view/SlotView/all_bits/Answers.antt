use Rattle.std.proofs.Common.{◌≡◌, ◌||◌, ◌∙◌, ap, subst, sym}
use Rattle.std.proofs.lemmas.Result.{IfOk-weaker}
use Rattle.surface_model.specs.Measurements as measurements
use Rattle.surface_model.specs.Measurements.{bits_of_slot}
use Rattle.slot_bits.specs.Order.{IsRising, has_bit}
use Rattle.slot_bits.specs.Seen.{bits_of}
use Rattle.measure_map.specs.Seen.{SlotOf}
use Rattle.slot_bits.specs.Lines.{bits_before}
use Rattle.slot_bits.proofs.Lines.{before_rising, slot_rising}
use Rattle.measure_map.proofs.slot_view.SlotView.all_bits.Goals as goal

pub union-requires-clause-one : goal.union-requires-clause-one
union-requires-clause-one c =
    subst IsRising (sym c.self.invariant.before)
    (before_rising c.self.inside.schedule.now c.self.inside.slot)

pub union-requires-clause-two : goal.union-requires-clause-two
union-requires-clause-two c =
    subst IsRising (sym c.self.invariant.bits)
    (slot_rising c.self.inside.schedule.now c.self.inside.slot)

pub returns-clause-members : goal.returns-clause-members
returns-clause-members c =
    let before = bits_of c.self.inside.before.now in let bits = bits_of c.self.inside.bits.now in
    let v = c.args.self.now in
    IfOk-weaker c.union.result (λ all. (b : measurements.Bit) →
    has_bit (bits_of all.items) b ≡ has_bit before b || has_bit bits b)
    (λ all. (b : measurements.Bit) →
    has_bit (bits_of all.items) b ≡ has_bit (bits_before v.schedule v.slot) b
    || has_bit (bits_of_slot v.schedule v.slot) b)
    (λ all h b. h b ∙ ap (λ xs. has_bit xs b || has_bit bits b) (c.self.invariant.before
    ∙ ap (λ (v : SlotOf). bits_before v.schedule v.slot) c.self.view_is)
    ∙ ap (λ xs. has_bit (bits_before v.schedule v.slot) b || has_bit xs b) (c.self.invariant.bits
    ∙ ap (λ (v : SlotOf). bits_of_slot v.schedule v.slot) c.self.view_is))
    c.union.ensures.members
