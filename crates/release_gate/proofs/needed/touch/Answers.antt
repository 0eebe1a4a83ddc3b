use Rattle.std.proofs.Common.{ap, sym, ◌∙◌, ◌==◌, length}
use Rattle.release_gate.proofs.Listed.{untouched}
use Rattle.release_gate.proofs.needed.touch.Goals as goal

pub returns-else-not-is_empty-clause-value : goal.returns-else-not-is_empty-clause-value
returns-else-not-is_empty-clause-value c k l = untouched _ c.args.mask.now _ (ap (λ xs. length xs
    == 0) (sym c.as_slice.ensures) ∙ sym c.is_empty.ensures ∙ c.if-not-is_empty.false)
