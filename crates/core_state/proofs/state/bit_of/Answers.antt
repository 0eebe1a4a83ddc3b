use Rattle.std.proofs.Common.{◌≡◌, ◌<◌, ℕ, Bool, false, All, length, map, sym, ap, ◌∙◌, subst, arith, take, get_or}
use Rattle.std.proofs.lemmas.List.{get_or-map, length-map, take_all}
use Rattle.graph_model.specs.Parity.{◌⊕◌, parity}
use Rattle.graph_model.proofs.Parities.{parity-map, parity_more, xor_ne}
use Rattle.release_gate.specs.Operations.{TimedOperation, labels_of}
use Rattle.core_state.proofs.state.bit_of.Goals as goal

pub value_of-bit-requires-clause-raw : goal.value_of-bit-requires-clause-raw
value_of-bit-requires-clause-raw c =
    let items = c.deref-label-items.result.now in
    let i = c.loop-label.label-index in
    let are : map (λ (label : ℕ × ℕ). label.0) items ≡ labels_of c.args.op.now =
    ap (map (λ (label : ℕ × ℕ). label.0)) c.deref-label-items.ensures.value
    ∙ ap labels_of c.op.view_is in
    let within : i < length (map (λ (label : ℕ × ℕ). label.0) items) =
    omega (arith, c.loop-label-test.true, length-map items (λ (label : ℕ × ℕ). label.0)) in
    subst (λ n. n < length c.args.raws.now)
    (get_or-map (λ (label : ℕ × ℕ). label.0) items i _ 0 c.loop-label-test.true)
    (subst (All (λ l. l < length c.args.raws.now)) (sym are) c.requires.raws i 0 within)

pub value_of-bit-requires-clause-flip : goal.value_of-bit-requires-clause-flip
value_of-bit-requires-clause-flip c =
    let items = c.deref-label-items.result.now in
    let i = c.loop-label.label-index in
    let are : map (λ (label : ℕ × ℕ). label.0) items ≡ labels_of c.args.op.now =
    ap (map (λ (label : ℕ × ℕ). label.0)) c.deref-label-items.ensures.value
    ∙ ap labels_of c.op.view_is in
    let within : i < length (map (λ (label : ℕ × ℕ). label.0) items) =
    omega (arith, c.loop-label-test.true, length-map items (λ (label : ℕ × ℕ). label.0)) in
    subst (λ n. n < length c.args.frame.now)
    (get_or-map (λ (label : ℕ × ℕ). label.0) items i _ 0 c.loop-label-test.true)
    (subst (All (λ l. l < length c.args.frame.now)) (sym are) c.requires.flips i 0 within)

pub loop-label-preserved : goal.loop-label-preserved
loop-label-preserved c =
    let items = c.deref-label-items.result.now in
    let i = c.loop-label.label-index in
    let value : ℕ × ℕ → Bool = λ label. get_or c.args.raws.now label.0 false
    ⊕ get_or c.args.frame.now label.0 false in
    xor_ne c.loop-label.bit c.value_of-bit.result
    ∙ ap (λ b. b ⊕ c.value_of-bit.result) c.loop-label.invariant
    ∙ ap (λ b. parity value (take i items) ⊕ b) c.value_of-bit.ensures
    ∙ sym (parity_more value items i _ c.loop-label-test.true)

pub returns : goal.returns
returns c =
    let items = c.deref-label-items.result.now in
    let value : ℕ → Bool = λ l. get_or c.args.raws.now l false
    ⊕ get_or c.args.frame.now l false in
    c.loop-label.invariant
    ∙ ap (parity (λ (label : ℕ × ℕ). value label.0)) (take_all c.loop-label.label-index items
    c.loop-label-test.false ∙ c.deref-label-items.ensures.value)
    ∙ sym (parity-map value (λ (label : ℕ × ℕ). label.0) _)
    ∙ ap (λ (op : TimedOperation). parity value (labels_of op)) c.op.view_is
