use Rattle.std.proofs.Common.{◌≡◌, ◌≤◌, ◌∙◌, ap, map, subst, sym}
use Rattle.std.proofs.lemmas.Result.{IfOk-weaker}
use Rattle.surface_model.specs.Schedules.{Schedule}
use Rattle.surface_model.specs.Layout.{last_slot}
use Rattle.surface_model.specs.Measurements.{bits_of_slot}
use Rattle.slot_bits.specs.Order.{IsRising}
use Rattle.slot_bits.specs.Seen.{bits_of}
use Rattle.slot_bits.specs.Watched.{place_in}
use Rattle.slot_bits.proofs.Lines.{slot_rising}
use Rattle.slot_bits.proofs.Watching.{bits_at, bits_few, slot_within}
use Rattle.slot_bits.proofs.bit_places.BitPlaces.among.Goals as goal

pub of_slot-requires : goal.of_slot-requires
of_slot-requires c =
    slot_within c.self.inside.schedule.now c.self.inside.bits.now c.args.slot
    c.self.invariant.bits_are
    (subst (λ (s : Schedule). c.args.slot ≤ last_slot s) (sym c.self.view_is) c.requires)

pub places_among-requires-clause-rising : goal.places_among-requires-clause-rising
places_among-requires-clause-rising c =
    let s = c.self.inside.schedule.now in
    subst IsRising
    (sym (bits_at s c.self.inside.bits.now c.args.slot (bits_of c.of_slot.result.now)
    c.self.invariant.bits_are c.of_slot.ensures)) (slot_rising s c.args.slot)

pub places_among-requires-clause-few : goal.places_among-requires-clause-few
places_among-requires-clause-few c =
    let s = c.self.inside.schedule.now in
    bits_few s c.self.invariant.accepted c.args.slot c.of_slot.result.now
    (bits_at s c.self.inside.bits.now c.args.slot (bits_of c.of_slot.result.now)
    c.self.invariant.bits_are c.of_slot.ensures)

pub returns : goal.returns
returns c =
    let s = c.self.inside.schedule.now in
    let all = bits_of c.of_slot.result.now in
    let e : all ≡ bits_of_slot c.args.self.now c.args.slot =
    bits_at s c.self.inside.bits.now c.args.slot all c.self.invariant.bits_are c.of_slot.ensures
    ∙ ap (λ (s : Schedule). bits_of_slot s c.args.slot) c.self.view_is in
    IfOk-weaker c.places_among.result (λ v. v.items ≡ map (place_in all) (bits_of c.args.bits.now))
    (λ v. v.items ≡ map (place_in (bits_of_slot c.args.self.now c.args.slot))
    (bits_of c.args.bits.now))
    (λ v h. h ∙ ap (λ bits. map (place_in bits) (bits_of c.args.bits.now)) e) c.places_among.ensures
