use Rattle.std.proofs.Common.{sym, ap, ◌∙◌, false, slice_index_or, take}
use Rattle.graph_model.specs.Parity.{◌⊕◌, parity}
use Rattle.graph_model.proofs.Parities.{parity_more, xor_ne}
use Rattle.measure_map.proofs.fold.row_parity.Goals as goal

pub loop-place-preserved : goal.loop-place-preserved
loop-place-preserved c =
    xor_ne c.loop-place.odd c.value_at-odd.result
    ∙ ap (λ b. b ⊕ c.value_at-odd.result) c.loop-place.invariant
    ∙ ap (λ b. parity (λ k. slice_index_or c.args.row.now k false)
    (take c.loop-place.place-index c.args.places.now) ⊕ b) c.value_at-odd.ensures
    ∙ sym (parity_more (λ k. slice_index_or c.args.row.now k false) c.args.places.now
    c.loop-place.place-index _ c.loop-place-test.true)
