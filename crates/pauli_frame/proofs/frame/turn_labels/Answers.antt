use Rattle.std.proofs.Common.{◌==◌, refl, ap, ◌∙◌, get_or, false}
use Rattle.std.proofs.lemmas.List.{take_all}
use Rattle.graph_model.specs.Parity.{◌⊕◌, parity}
use Rattle.pauli_frame.proofs.Turning.{parity_once, turned_more}
use Rattle.pauli_frame.proofs.frame.turn_labels.Goals as goal

pub loop-label-preserved : goal.loop-label-preserved
loop-label-preserved c = record {
  len = c.flip.ensures.len ∙ c.loop-label.invariant.len;
  value = λ k.
      turned_more (λ x. x == k) c.as_slice-label-items.result.now c.loop-label.label-index
      0 (get_or c.args.flips.now k false) (get_or c.loop-label.flips k false)
      (get_or c.flip.new.self k false) _
      c.loop-label-test.true (c.loop-label.invariant.value k) refl (c.flip.ensures.value k);
}

pub returns-clause-value : goal.returns-clause-value
returns-clause-value c k =
    let all = take_all c.loop-label.label-index c.as_slice-label-items.result.now
    c.loop-label-test.false ∙ c.as_slice-label-items.ensures in
    c.loop-label.invariant.value k
    ∙ ap (λ b. get_or c.args.flips.now k false ⊕ b) (ap (parity (λ x. x == k)) all
    ∙ parity_once c.args.mask.now c.requires.ascending k)
