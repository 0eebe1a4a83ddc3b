use Rattle.std.proofs.Common.{sym, subst}
use Rattle.std.specs.List.Sorted.{IsNonDecreasing, IsPermutation}
use Rattle.std.proofs.lemmas.List.Sorted.{IsNonDecreasingBy-from_sort}
use Rattle.std.proofs.lemmas.Result.{IfOk-weaker}
use Rattle.dist_search.specs.Tables.{IsOdd}
use Rattle.dist_search.proofs.Ways.{odd_sorted}
use Rattle.dist_search.proofs.trace.odd_edges.Goals as goal

pub odd_of_sorted-requires : goal.odd_of_sorted-requires
odd_of_sorted-requires c = subst IsNonDecreasing (sym c.deref.ensures.value)
    (IsNonDecreasingBy-from_sort (λ x. x) _ c.sort_unstable.ensures.sorted)

pub returns : goal.returns
returns c =
    IfOk-weaker c.odd_of_sorted.result (IsOdd c.deref.result.now) (IsOdd c.args.edges.items)
    (λ set so. odd_sorted c.args.edges.items c.deref.result.now set (subst (IsPermutation
    c.args.edges.items) (sym c.deref.ensures.value) c.sort_unstable.ensures.permutation) so)
    c.odd_of_sorted.ensures
