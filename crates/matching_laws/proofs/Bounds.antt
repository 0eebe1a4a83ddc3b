-- Sums of numbers that are not below 0.
use Rattle.std.proofs.Common.{List, [], ◌∷◌, arith}
use Rattle.std.specs.Prelude.{pos, ◌≤ℤ◌}
use Rattle.std.proofs.lemmas.Int.{ints}
use Rattle.matching_model.specs.Sums.{int_sum_by}
use Rattle.matching_model.specs.Forests.{Branches, leaf, branch, Mate, Tree, inner_sum, heft, mate_sum}
use Rattle.matching_model.proofs.IntSums.{int_sum_by-cons}
use Rattle.matching_model.proofs.FreeSteps.{low_tree}

pub low_some : (bs : Branches) → pos 0 ≤ℤ inner_sum heft bs
low_some leaf = omega (arith, ints)
low_some (branch o i inner u w outer sub rest) = let a = low_some sub in let b = low_some rest in
    omega (arith, ints, a, b)

pub low_trees : (ts : List Tree) → pos 0 ≤ℤ int_sum_by low_tree ts
low_trees [] = omega (arith, ints)
low_trees (t ∷ ts) = let a = low_trees ts in let b = low_some t.branches in
    omega (arith, ints, a, b, int_sum_by-cons low_tree t ts)

pub low_mates : (ps : List Mate) → pos 0 ≤ℤ int_sum_by (mate_sum heft) ps
low_mates [] = omega (arith, ints)
low_mates (p ∷ ps) = let a = low_mates ps in omega (
  arith,
  ints,
  a,
  int_sum_by-cons (mate_sum heft) p ps,
)
