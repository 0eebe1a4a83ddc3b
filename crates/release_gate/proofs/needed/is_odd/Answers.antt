use Rattle.std.proofs.Common.{ℕ, sym, ap, ◌∙◌, take}
use Rattle.std.proofs.lemmas.List.{take_all}
use Rattle.graph_model.specs.Graph.{is_in}
use Rattle.graph_model.specs.Parity.{◌⊕◌, parity}
use Rattle.graph_model.proofs.Parities.{parity-map, parity_more, xor_ne}
use Rattle.release_gate.specs.Operations.{TimedOperation, labels_of}
use Rattle.release_gate.proofs.needed.is_odd.Goals as goal

pub loop-label-preserved : goal.loop-label-preserved
loop-label-preserved c =
    let mask = c.args.mask.now in
    let items = c.deref-label-items.result.now in
    let i = c.loop-label.label-index in
    let named : ℕ × ℕ → _ = λ label. is_in mask label.0 in
    xor_ne c.loop-label.odd c.contains-odd.result
    ∙ ap (λ b. b ⊕ c.contains-odd.result) c.loop-label.invariant
    ∙ ap (λ b. parity named (take i items) ⊕ b) c.contains-odd.ensures
    ∙ sym (parity_more named items i _ c.loop-label-test.true)

pub returns : goal.returns
returns c =
    let mask = c.args.mask.now in
    let items = c.deref-label-items.result.now in
    c.loop-label.invariant
    ∙ ap (parity (λ (label : ℕ × ℕ). is_in mask label.0)) (take_all c.loop-label.label-index items
    c.loop-label-test.false ∙ c.deref-label-items.ensures.value)
    ∙ sym (parity-map (is_in mask) (λ (label : ℕ × ℕ). label.0) _)
    ∙ ap (λ (op : TimedOperation). parity (is_in mask) (labels_of op)) c.op.view_is
