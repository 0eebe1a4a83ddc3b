use Rattle.std.proofs.Common.{sym, ap, ◌∙◌, take}
use Rattle.graph_model.specs.Parity.{◌⊕◌, parity}
use Rattle.graph_model.proofs.Parities.{parity_more, xor_ne}
use Rattle.measure_map.specs.Placed.{slot_value}
use Rattle.measure_map.proofs.fold.parity_of.Goals as goal

pub loop-place-preserved : goal.loop-place-preserved
loop-place-preserved c =
    xor_ne c.loop-place.odd c.bit_value-odd.result
    ∙ ap (λ b. b ⊕ c.bit_value-odd.result) c.loop-place.invariant
    ∙ ap (λ b. parity (slot_value c.args.slot c.args.before.now c.args.row.now)
    (take c.loop-place.place-index c.args.places.now) ⊕ b) c.bit_value-odd.ensures
    ∙ sym (parity_more (slot_value c.args.slot c.args.before.now c.args.row.now) c.args.places.now
    c.loop-place.place-index _ c.loop-place-test.true)
