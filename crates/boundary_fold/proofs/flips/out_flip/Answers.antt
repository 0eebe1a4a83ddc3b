use Rattle.std.proofs.Common.{◌≤◌, length, take, sym, ap, ◌∙◌, arith}
use Rattle.std.proofs.lemmas.List.{take_all}
use Rattle.graph_model.specs.Parity.{◌⊕◌, parity}
use Rattle.graph_model.specs.Graph.{is_in}
use Rattle.graph_model.proofs.Parities.{parity_more, xor_ne}
use Rattle.boundary_fold.proofs.Sets.{boundary_is}
use Rattle.boundary_fold.proofs.flips.out_flip.Goals as goal

pub loop-edge-preserved : goal.loop-edge-preserved
loop-edge-preserved c =
    let items = c.incident-edge-items.result.now in
    let i = c.loop-edge.edge-index in
    let kept = c.args.kept.now in
    xor_ne c.loop-edge.flip c.contains-flip.result
    ∙ ap (λ b. b ⊕ c.contains-flip.result) c.loop-edge.invariant
    ∙ ap (λ b. parity (is_in kept) (take i items) ⊕ b) c.contains-flip.ensures
    ∙ sym (parity_more (is_in kept) items i 0 c.loop-edge-test.true)

pub returns : goal.returns
returns c =
    let items = c.incident-edge-items.result.now in
    let i = c.loop-edge.edge-index in
    let kept = c.args.kept.now in
    let g = c.args.graph.now in
    let past : length items ≤ i = omega (arith, c.loop-edge-test.false) in
    c.loop-edge.invariant
    ∙ ap (parity (is_in kept)) (take_all i items past ∙ c.incident-edge-items.ensures)
    ∙ boundary_is g kept c.args.place c.as_slice-kept.ensures.ascending c.requires.kept
