use Rattle.std.proofs.Common.{ℕ, ◌++◌, [], ◌∷◌, List, sym, ◌∙◌, ap}
use Rattle.graph_model.proofs.Ranges.{below_more}
use Rattle.pair_plain.proofs.numbers_below.Goals as goal

pub loop-number-preserved : goal.loop-number-preserved
loop-number-preserved c = c.in_ok-push.ensures.items ∙ ap (λ (xs : List ℕ). xs
    ++ c.loop-number.number ∷ []) c.loop-number.invariant ∙ sym (below_more c.loop-number.number)
