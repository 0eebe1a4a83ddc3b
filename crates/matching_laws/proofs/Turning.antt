-- The sets of a tree are matched, all but one outer set.
use Rattle.std.proofs.Common.{◌≡◌, ℕ, ◌*◌, List, ◌∷◌, ◌++◌, refl, arith}
use Rattle.std.specs.Prelude.{ℤ, pos, ◌+ℤ◌}
use Rattle.std.proofs.lemmas.Int.{ints}
use Rattle.matching_model.specs.Sums.{int_sum_by}
use Rattle.matching_model.specs.Blossoms.{Side}
use Rattle.matching_model.specs.Forests.{Branches, leaf, branch, Mate, Tree, Measure, of, branch_sum, tree_sum, mate_sum, IsSet, AreBranches, AreMates, IsSound, IsOuter, root, below, beside}
use Rattle.matching_model.proofs.IntSums.{int_sum_by-cons, int_sum_by-append}
use Rattle.matching_model.proofs.Augmenting.{mates_append, sound_same}
use Rattle.matching_model.proofs.TurnBound.{low_bound}
use Rattle.matching_model.proofs.FreeSteps.{low_tree}
use Rattle.matching_laws.specs.Constructions.{part_off, turn_about}
use Rattle.matching_laws.specs.StepLaws.{AugmentLaw, forest}
use Rattle.matching_laws.proofs.Bounds.{low_some, low_trees, low_mates}

pub part_off_sum : (m : Measure) (bs : Branches) →
    int_sum_by (mate_sum m) (part_off bs) ≡ branch_sum m bs
part_off_sum m leaf = refl
part_off_sum m (branch o i inner a b outer sub rest) =
    let x = part_off_sum m sub in
    let y = part_off_sum m rest in
    omega (
      arith,
      ints,
      x,
      y,
      int_sum_by-cons (mate_sum m)
          (record { one = inner; at_one = a; two = outer; at_two = b })
          (part_off sub ++ part_off rest),
      int_sum_by-append (mate_sum m) (part_off sub)
          (part_off rest),
    )

pub turn_about_sum : (m : Measure) (top : Side) (bs : Branches) (x : Side) (q : IsOuter top bs x) →
    of m x +ℤ int_sum_by (mate_sum m) (turn_about top bs x q) ≡ of m top +ℤ branch_sum m bs
turn_about_sum m top bs x root = let k = part_off_sum m bs in omega (arith, ints, k)
turn_about_sum m top (branch o i inner a b outer sub rest) x (below q) =
    let k = turn_about_sum m outer sub x q in
    let r = part_off_sum m rest in
    omega (
      arith,
      ints,
      k,
      r,
      int_sum_by-cons (mate_sum m) (record { one = top; at_one = o; two = inner; at_two = i })
          (turn_about outer sub x q ++ part_off rest),
      int_sum_by-append (mate_sum m) (turn_about outer sub x q) (part_off rest),
    )
turn_about_sum m top (branch o i inner a b outer sub rest) x (beside q) =
    let k = turn_about_sum m top rest x q in
    let r = part_off_sum m sub in
    omega (
      arith,
      ints,
      k,
      r,
      int_sum_by-cons (mate_sum m) (record { one = inner; at_one = a; two = outer; at_two = b })
          (turn_about top rest x q ++ part_off sub),
      int_sum_by-append (mate_sum m) (turn_about top rest x q) (part_off sub),
    )

module _ (dist : ℕ → ℕ → ℕ) (t : ℤ) where
  pub part_off_fits : (top : Side) (bs : Branches) → AreBranches dist t top bs →
      AreMates dist (part_off bs)
  part_off_fits top leaf h = tt
  part_off_fits top (branch o i inner a b outer sub rest) h = (
    (h.0.0, h.1.0, h.3),
    mates_append dist (part_off sub) (part_off rest)
        (part_off_fits outer sub h.4) (part_off_fits top rest h.5),
  )

  pub turn_about_fits : (top : Side) (bs : Branches) (x : Side) (q : IsOuter top bs x) →
      IsSet dist top → AreBranches dist t top bs →
      IsSet dist x × AreMates dist (turn_about top bs x q)
  turn_about_fits top bs x root fine h = (fine, part_off_fits top bs h)
  turn_about_fits top (branch o i inner a b outer sub rest) x (below q) fine h =
      let k = turn_about_fits outer sub x q h.1.0 h.4 in (
        k.0,
        (
          (fine, h.0.0, h.2),
          mates_append dist (turn_about outer sub x q) (part_off rest) k.1
              (part_off_fits top rest h.5),
        ),
      )
  turn_about_fits top (branch o i inner a b outer sub rest) x (beside q) fine h =
      let k = turn_about_fits top rest x q fine h.5 in (
        k.0,
        (
          (h.0.0, h.1.0, h.3),
          mates_append dist (turn_about top rest x q) (part_off sub) k.1
              (part_off_fits outer sub h.4),
        ),
      )

pub augment_law : AugmentLaw
augment_law dist n one two trees mates x y u w p q tight h =
    record {
      sound = sound;
      fewer =
          let e = low_bound dist n trees pair more sound in
          let a = low_some one.branches in
          let b = low_some two.branches in
          let c = low_trees trees in
          let d = low_mates mates in
          omega (
            arith,
            ints,
            e,
            a,
            b,
            c,
            d,
            int_sum_by-cons (λ (t : Tree). pos (3 * n)) one (two ∷ trees),
            int_sum_by-cons (λ (t : Tree). pos (3 * n)) two trees,
            int_sum_by-cons low_tree one (two ∷ trees),
            int_sum_by-cons low_tree two trees,
          );
    }
  where
    pair : Mate
    pair = record { one = x; at_one = u; two = y; at_two = w }

    first : List Mate
    first = turn_about one.root one.branches x p

    second : List Mate
    second = turn_about two.root two.branches y q

    more : List Mate
    more = first ++ (second ++ mates)

    a : IsSet dist x × AreMates dist first
    a = turn_about_fits dist h.rise one.root one.branches x p h.trees.0.0.0 h.trees.0.1

    b : IsSet dist y × AreMates dist second
    b = turn_about_fits dist h.rise two.root two.branches y q h.trees.1.0.0.0 h.trees.1.0.1

    sound : IsSound dist n (forest trees (pair ∷ more))
    sound = sound_same dist n (forest (one ∷ two ∷ trees) mates) (forest trees (pair ∷ more)) h
        (λ m. let s = turn_about_sum m one.root one.branches x p in
        let r = turn_about_sum m two.root two.branches y q in
        omega (
          arith,
          ints,
          s,
          r,
          int_sum_by-cons (mate_sum m) pair more,
          int_sum_by-append (mate_sum m) first (second ++ mates),
          int_sum_by-append (mate_sum m) second mates,
          int_sum_by-cons (tree_sum m) one (two ∷ trees),
          int_sum_by-cons (tree_sum m) two trees,
        ))
        h.trees.1.1 (
          (a.0, b.0, tight),
          mates_append dist first (second ++ mates) a.1
              (mates_append dist second mates b.1 h.mates),
        )
