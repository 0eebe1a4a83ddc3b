use Rattle.std.proofs.Common.{[], ap, ◌∙◌, slice_get, sym}
use Rattle.std.specs.Prelude.{position}
use Rattle.std.proofs.lemmas.Option.{get_or_from_slice_get}
use Rattle.surface_model.specs.Measurements.{same_bit}
use Rattle.measure_map.specs.Placed.{Placed}
use Rattle.slot_bits.specs.Seen.{bit_of, bits_of}
use Rattle.measure_map.proofs.Mapped.{few_in_map, rising_in_map}
use Rattle.measure_map.proofs.map.MeasureMap.place_of.Goals as goal

pub place_of-requires-clause-rising : goal.place_of-requires-clause-rising
place_of-requires-clause-rising c =
    rising_in_map bit_of _ c.self.invariant.map_is c.args.slot c.of_slot.result.now
    c.of_slot.ensures

pub place_of-requires-clause-few : goal.place_of-requires-clause-few
place_of-requires-clause-few c =
    few_in_map bit_of _ c.self.invariant.map_is c.args.slot c.of_slot.result.now c.of_slot.ensures

pub returns : goal.returns
returns c =
    c.place_of.ensures
    ∙ ap (position (same_bit (bit_of c.args.bit.now)))
    (sym (get_or_from_slice_get c.args.self.now.lines c.args.slot
    (bits_of c.of_slot.result.now) []
    (sym (ap (λ (m : Placed). slice_get m.lines c.args.slot) c.self.view_is)
    ∙ c.of_slot.ensures)))
