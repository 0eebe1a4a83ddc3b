use Rattle.std.proofs.Common.{ℕ, max, fold, map, take, get_or, sym, ap, ◌∙◌, arith}
use Rattle.std.proofs.lemmas.List.{length-map, get_or-map}
use Rattle.std.proofs.lemmas.List.Sums.{fold_more}
use Rattle.release_gate.proofs.op_spec.OpSpec.last_raw.Goals as goal

pub loop-label-preserved : goal.loop-label-preserved
loop-label-preserved c =
    let items = c.deref-label-items.result.now in
    let i = c.loop-label.label-index in
    let slot : ℕ × ℕ → ℕ = λ label. label.1 in
    let none : ℕ × ℕ = (0, 0) in
    c.max-round.ensures
    ∙ ap (λ n. max n (slot (get_or items i none))) c.loop-label.invariant
    ∙ ap (max (fold max 0 (take i (map slot items))))
    (sym (get_or-map slot items i none 0 c.loop-label-test.true))
    ∙ sym (fold_more max 0 (map slot items) i 0 (omega (
      arith,
      c.loop-label-test.true,
      length-map items slot,
    )))
