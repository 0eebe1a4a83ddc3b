-- A matched pair of sets joins a tree.
use Rattle.std.proofs.Common.{◌≡◌, ℕ, ◌*◌, ◌∷◌, arith}
use Rattle.std.specs.Prelude.{ℤ, pos, ◌+ℤ◌}
use Rattle.std.proofs.lemmas.Int.{ints}
use Rattle.matching_model.specs.Blossoms.{Side, IsTight}
use Rattle.matching_model.specs.Forests.{Branches, branch, Mate, Tree, Measure, of, branch_sum, inner_sum, heft, tree_sum, mate_sum, IsSet, IsEven, AreBranches, IsOuter, root, below, beside}
use Rattle.matching_model.proofs.IntSums.{int_sum_by-cons}
use Rattle.matching_model.proofs.Augmenting.{sound_same}
use Rattle.matching_model.proofs.Growing.{even_across}
use Rattle.matching_model.proofs.Shrinking.{heft_some}
use Rattle.matching_model.proofs.FreeSteps.{low_tree}
use Rattle.matching_laws.specs.Constructions.{hang}
use Rattle.matching_laws.specs.StepLaws.{GrowLaw, forest, with_branches}

-- what hangs there gives to each measure
pub hang_sum : (m : Measure) (top : Side) (bs : Branches) (x : Side) (q : IsOuter top bs x)
    (u v : ℕ) (p : Mate) →
    branch_sum m (hang top bs x q u v p) ≡ mate_sum m p +ℤ branch_sum m bs
hang_sum m top bs x root u v p = omega (arith, ints)
hang_sum m top (branch o i inner a b outer sub rest) x (below q) u v p =
    let e = hang_sum m outer sub x q u v p in omega (arith, ints, e)
hang_sum m top (branch o i inner a b outer sub rest) x (beside q) u v p =
    let e = hang_sum m top rest x q u v p in omega (arith, ints, e)

pub hang_low : (m : Measure) (top : Side) (bs : Branches) (x : Side) (q : IsOuter top bs x)
    (u v : ℕ) (p : Mate) →
    inner_sum m (hang top bs x q u v p) ≡ of m p.one +ℤ inner_sum m bs
hang_low m top bs x root u v p = omega (arith, ints)
hang_low m top (branch o i inner a b outer sub rest) x (below q) u v p =
    let e = hang_low m outer sub x q u v p in omega (arith, ints, e)
hang_low m top (branch o i inner a b outer sub rest) x (beside q) u v p =
    let e = hang_low m top rest x q u v p in omega (arith, ints, e)

module _ (dist : ℕ → ℕ → ℕ) (t : ℤ) (x : Side) (u v : ℕ) (p : Mate)
    (tight : IsTight dist x u p.one v)
    (mated : IsSet dist p.one × IsSet dist p.two × IsTight dist p.one p.at_one p.two p.at_two) where
  hang_fits : (top : Side) (bs : Branches) (q : IsOuter top bs x) → IsSet dist top × IsEven t top →
      AreBranches dist t top bs →
      AreBranches dist t top (hang top bs x q u v p)
  hang_fits top bs root fine h =
      let one = even_across dist t x u p.one v mated.0 fine.1 tight in (
        (mated.0, one),
        (
          mated.1,
          even_across dist t p.one p.at_one p.two p.at_two mated.1 one mated.2,
        ),
        tight,
        mated.2,
        tt,
        h,
      )
  hang_fits top (branch o i inner a b outer sub rest) (below q) fine h =
      (h.0, h.1, h.2, h.3, hang_fits outer sub q h.1 h.4, h.5)
  hang_fits top (branch o i inner a b outer sub rest) (beside q) fine h =
      (h.0, h.1, h.2, h.3, h.4, hang_fits top rest q fine h.5)

pub grow_law : GrowLaw
grow_law dist n tree trees p mates x u v place tight h = record {
  sound = sound_same dist n (forest (tree ∷ trees) (p ∷ mates)) (forest (new ∷ trees) mates) h
      (λ m. let e = hang_sum m tree.root tree.branches x place u v p in
      omega (
        arith,
        ints,
        e,
        int_sum_by-cons (tree_sum m) tree trees,
        int_sum_by-cons (tree_sum m) new trees,
        int_sum_by-cons (mate_sum m) p mates,
      )) (
        (
          h.trees.0.0,
          hang_fits dist h.rise x u v p tight h.mates.0 tree.root tree.branches place
              h.trees.0.0 h.trees.0.1,
          h.trees.0.2,
        ),
        h.trees.1,
      ) h.mates.1;
  fewer =
      let e = hang_low heft tree.root tree.branches x place u v p in
      let some = heft_some dist p.two.body h.mates.0.1.0 in
      omega (
        arith,
        ints,
        e,
        some,
        int_sum_by-cons (λ (t : Tree). pos (3 * n)) tree trees,
        int_sum_by-cons (λ (t : Tree). pos (3 * n)) new trees,
        int_sum_by-cons low_tree tree trees,
        int_sum_by-cons low_tree new trees,
        int_sum_by-cons (mate_sum heft) p mates,
      );
}
  where
    new : Tree
    new = with_branches tree (hang tree.root tree.branches x place u v p)
