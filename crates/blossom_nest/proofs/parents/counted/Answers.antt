use Rattle.std.proofs.Common.{◌∷◌, [], ◌++◌, ap, sym, ◌∙◌, arith}
use Rattle.graph_model.proofs.Ranges.{below_more}
use Rattle.blossom_nest.proofs.parents.counted.Goals as goal

pub loop-number-preserved : goal.loop-number-preserved
loop-number-preserved c = record {
  items = c.in_ok-push.ensures.items ∙ ap (λ xs. xs ++ c.loop-number.number ∷ [])
      c.loop-number.invariant.items ∙ sym (below_more c.loop-number.number);
  room = omega (arith, c.loop-number.invariant.room, c.in_ok-push.ensures.capacity);
}
