use Rattle.std.proofs.Common.{ap, ◌∙◌, sym, take, map, get_or}
use Rattle.graph_model.specs.Parity.{◌⊕◌, parity}
use Rattle.graph_model.proofs.Parities.{parity_more, xor_ne}
use Rattle.slot_bits.specs.Seen.{bit_of}
use Rattle.error_map.specs.Sees.{sees_place}
use Rattle.error_map.proofs.Seeing.{place_seen}
use Rattle.error_map.proofs.masks.is_odd.Goals as goal

pub loop-place-preserved : goal.loop-place-preserved
loop-place-preserved c =
    let places = c.args.places.now in
    let i = c.loop-place.place-index in
    xor_ne c.loop-place.odd c.sees-odd.result
    ∙ ap (λ b. b ⊕ c.sees-odd.result) c.loop-place.invariant
    ∙ ap (λ b. parity (sees_place c.args.effect c.args.slot (map bit_of c.args.line.now))
    (take i places) ⊕ b)
    (place_seen c.args.effect c.args.slot c.args.line.now (get_or places i 0)
    c.index-line-place.result (c.requires i 0 c.loop-place-test.true) c.index-line-place.is
    c.sees-odd.result c.sees-odd.ensures)
    ∙ sym (parity_more (sees_place c.args.effect c.args.slot (map bit_of c.args.line.now)) places i
    0 c.loop-place-test.true)
