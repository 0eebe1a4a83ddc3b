-- What is kept shows the search in which a ring has become one set.
use Rattle.std.proofs.Common.{◌≡◌, ℕ, true, false, List, ◌∷◌, ◌++◌, refl, sym, ◌∙◌, arith, subst}
use Rattle.std.specs.Prelude.{ℤ, pos, ◌+ℤ◌}
use Rattle.std.proofs.lemmas.Int.{ints}
use Rattle.std.proofs.lemmas.Bool.{false≢true, false_from_ne_true}
use Rattle.graph_model.specs.Graph.{is_in}
use Rattle.matching_model.specs.Sums.{int_sum_by}
use Rattle.matching_model.specs.Matchings.{AreApart}
use Rattle.matching_model.specs.Blossoms.{Side, side_members}
use Rattle.matching_model.specs.Forests.{Branches, leaf, branch, Tree, Measure, of, branch_sum, tree_sum, search_sum, summed, Outer, below, beside, AreTwo, split, both_below, both_beside}
use Rattle.matching_model.proofs.IntSums.{int_sum_by-cons, int_sum_by-append}
use Rattle.matching_model.proofs.Crossed.{apart_append}
use Rattle.matching_model.proofs.Rings.{summed_shrunk}
use Rattle.matching_model.proofs.Slacks.{branch_items, branch_items_sum, tree_items, tree_items_sum, mate_items, mate_items_sum, sums_apart}
use Rattle.matching_laws.specs.Constructions.{Sense, to_first, to_second, all_on, as_one, branches_with, close_ring, off_way, ring_between, top_with}
use Rattle.matching_laws.specs.StepLaws.{forest}
use Rattle.matching_laws.proofs.Closing.{members_append, split_sum}
use Rattle.matching_laws.proofs.Ways.{all_on_sum}
use Rattle.shown_search.specs.Shown.{Kept, IsInTree, AreBranches, IsTree, AreTrees, Shows}
use Rattle.shown_search.specs.Growing.{put}
use Rattle.shown_rings.specs.Shrinking.{ShrunkLaw, names_of, ring_of_step, shrunk}
use Rattle.shown_search.specs.Taken.{from_first}
use Rattle.shown_search.proofs.Fronts.{no_dist, tree_first_sum, trees_front}
use Rattle.shown_rings.proofs.Rings.{EachIn, Outside, beside_items, closed_shown, outside_left, outside_right, pairs_stay, ring_in, trees_stay}

abbrev side_sum : Measure → List Side → ℤ
side_sum m ss = int_sum_by (of m) ss

-- a ring and the sets beside it are those of the tree
ring_sum : (m : Measure) (top : Side) (bs : Branches) (x y : Side) (places : AreTwo top bs x y)
    (sense : Sense) (u w : ℕ) →
    side_sum m (ring_between top bs x y places sense u w) +ℤ side_sum m
    (beside_items top bs x y places) ≡ of m top +ℤ branch_sum m bs
ring_sum m top leaf x y places sense u w = elim places [ ]
ring_sum m top (branch o i inner a b outer sub rest) x y (split p q) sense u w =
    let e = split_sum no_dist (λ c d. refl)
    (pos 0) top o i inner a b outer sub rest x y p q u w sense m in
    omega (
      arith,
      ints,
      e,
      branch_items_sum m (all_on (off_way top rest y q) (off_way outer sub x p)),
      all_on_sum m (off_way top rest y q) (off_way outer sub x p),
    )
ring_sum m top (branch o i inner a b outer sub rest) x y (both_below c) sense u w =
    let e = ring_sum m outer sub x y c sense u w in
    let items = beside_items outer sub x y c in
    omega (
      arith,
      ints,
      e,
      int_sum_by-cons (of m) top (inner ∷ (items ++ branch_items rest)),
      int_sum_by-cons (of m) inner (items ++ branch_items rest),
      int_sum_by-append (of m) items (branch_items rest),
      branch_items_sum m rest,
    )
ring_sum m top (branch o i inner a b outer sub rest) x y (both_beside c) sense u w =
    let e = ring_sum m top rest x y c sense u w in
    let items = beside_items top rest x y c in
    omega (
      arith,
      ints,
      e,
      int_sum_by-cons (of m) inner (outer ∷ (branch_items sub ++ items)),
      int_sum_by-cons (of m) outer (branch_items sub ++ items),
      int_sum_by-append (of m) (branch_items sub) items,
      branch_items_sum m sub,
    )

-- the tree with the ring as the set r has r and the sets beside the ring
with_sum : (m : Measure) (top : Side) (bs : Branches) (x y : Side) (places : AreTwo top bs x y)
    (r : Side) →
    of m (top_with top bs x y places r) +ℤ branch_sum m (branches_with top bs x y places r)
    ≡ of m r +ℤ side_sum m (beside_items top bs x y places)
with_sum m top leaf x y places r = elim places [ ]
with_sum m top (branch o i inner a b outer sub rest) x y (split p q) r =
    omega (arith, ints, branch_items_sum m (all_on (off_way top rest y q) (off_way outer sub x p)))
with_sum m top (branch o i inner a b outer sub rest) x y (both_below c) r =
    let e = with_sum m outer sub x y c r in
    let items = beside_items outer sub x y c in
    omega (
      arith,
      ints,
      e,
      int_sum_by-cons (of m) top (inner ∷ (items ++ branch_items rest)),
      int_sum_by-cons (of m) inner (items ++ branch_items rest),
      int_sum_by-append (of m) items (branch_items rest),
      branch_items_sum m rest,
    )
with_sum m top (branch o i inner a b outer sub rest) x y (both_beside c) r =
    let e = with_sum m top rest x y c r in
    let items = beside_items top rest x y c in
    omega (
      arith,
      ints,
      e,
      int_sum_by-cons (of m) inner (outer ∷ (branch_items sub ++ items)),
      int_sum_by-cons (of m) outer (branch_items sub ++ items),
      int_sum_by-append (of m) (branch_items sub) items,
      branch_items_sum m sub,
    )

-- the ring's sets are of the tree
between_in : (k : Kept) (number : ℕ → ℤ) (r : ℕ) (top : Side) (z : ℕ) (bs : Branches) (x y : Side)
    (places : AreTwo top bs x y) (sense : Sense) (u w : ℕ) → IsInTree k number r Outer top z →
    AreBranches k number r bs →
    EachIn k number r (ring_between top bs x y places sense u w)
between_in k number r top z leaf x y places sense u w t h = elim places [ ]
between_in k number r top z (branch o i inner a b outer sub rest) x y
    (split p q) to_first u w t h = ring_in k number r top z (branch o i inner a b outer sub rest) x
    (below p) y (beside q) u w t h
between_in k number r top z (branch o i inner a b outer sub rest) x y
    (split p q) to_second u w t h = ring_in k number r top z
    (branch o i inner a b outer sub rest) y (beside q) x (below p) w u t h
between_in k number r top z (branch o i inner a b outer sub rest) x y
    (both_below c) sense u w t h = between_in k number r outer b sub x y c sense u w h.1 h.3
between_in k number r top z (branch o i inner a b outer sub rest) x y
    (both_beside c) sense u w t h = between_in k number r top z rest x y c sense u w t h.4

pub shrunk_law : ShrunkLaw
shrunk_law k number s s' u w h g own set free joint joints joined =
    subst (Shows (shrunk k joint (names_of k ring) set) (put number set (pos 0))) (sym g.after)
    (record {
      trees = (
        record { free = tree.free; unmatched = tree.unmatched; root = made.0; branches = made.1 },
        trees_stay k number tree.free joint ring set each own free joints g.trees trees.1
            (outside_left' (tree_items g.trees) (mate_items s.mates)
            (outside_right' (beside_items g.tree.root g.tree.branches g.first g.second g.places)
            (tree_items g.trees ++ mate_items s.mates) out)),
      );
      mates = pairs_stay k number tree.free joint ring set each own free joints s.mates h.mates
          (outside_right' (tree_items g.trees) (mate_items s.mates)
          (outside_right' (beside_items g.tree.root g.tree.branches g.first g.second g.places)
          (tree_items g.trees ++ mate_items s.mates) out));
      covers = λ f. new_sum f ∙ h.covers f;
    })
  where
    one : ℕ
    one = (from_first g.sense u w).0

    other : ℕ
    other = (from_first g.sense u w).1

    ring : List Side
    ring = ring_of_step g

    items : List Side
    items = beside_items g.tree.root g.tree.branches g.first g.second g.places

    others : List Side
    others = items ++ (tree_items g.trees ++ mate_items s.mates)

    trees : IsTree k number g.tree × AreTrees k number g.trees
    trees = trees_front k number s.trees g.tree g.trees g.tree_first h.trees

    tree : IsTree k number g.tree
    tree = trees.0

    each : EachIn k number tree.free ring
    each = between_in k number tree.free g.tree.root tree.free g.tree.branches g.first g.second
        g.places g.sense one other tree.root tree.branches

    all_sum : (m : Measure) → side_sum m (ring ++ others) ≡ search_sum m s
    all_sum m =
        let a = ring_sum m g.tree.root g.tree.branches g.first g.second g.places g.sense one other
        in
        let b = tree_first_sum m s.trees g.tree g.trees g.tree_first in
        omega (
          arith,
          ints,
          a,
          b,
          int_sum_by-append (of m) ring others,
          int_sum_by-append (of m) items (tree_items g.trees ++ mate_items s.mates),
          int_sum_by-append (of m) (tree_items g.trees) (mate_items s.mates),
          tree_items_sum m g.trees,
          mate_items_sum m s.mates,
          int_sum_by-cons (tree_sum m) g.tree g.trees,
        )

    apart : AreApart (side_members ring) × AreApart (side_members others) × ((v : ℕ) →
        is_in (side_members ring) v ≡ true → is_in (side_members others) v ≡ false)
    apart = apart_append (side_members ring) (side_members others)
        (subst AreApart (members_append ring others) (sums_apart no_dist k.vertices
        (ring ++ others) (λ f. all_sum (summed f) ∙ h.covers f)))

    out : (v : ℕ) → is_in (side_members others) v ≡ true → is_in (side_members ring) v ≡ false
    out v m = false_from_ne_true (is_in (side_members ring) v)
        (λ i. false≢true (sym (apart.2 v i) ∙ m))

    outside_left' : (xs ys : List Side) →
        Outside k number tree.free joint ring set each own free joints (xs ++ ys) →
        Outside k number tree.free joint ring set each own free joints xs
    outside_left' xs ys = outside_left k number tree.free joint ring set each own free joints xs ys

    outside_right' : (xs ys : List Side) →
        Outside k number tree.free joint ring set each own free joints (xs ++ ys) →
        Outside k number tree.free joint ring set each own free joints ys
    outside_right' xs ys =
        outside_right k number tree.free joint ring set each own free joints xs ys

    made : IsInTree (shrunk k joint (names_of k ring) set) (put number set (pos 0)) tree.free Outer
        (top_with g.tree.root g.tree.branches g.first g.second g.places (as_one ring)) tree.free
        × AreBranches (shrunk k joint (names_of k ring) set) (put number set (pos 0)) tree.free
        (branches_with g.tree.root g.tree.branches g.first g.second g.places (as_one ring))
    made = closed_shown k number tree.free joint ring set each own free joints g.tree.root
        tree.free g.tree.branches g.first g.second g.places g.sense one other refl tree.root
        tree.branches
        (outside_left' items (tree_items g.trees ++ mate_items s.mates) out) joined

    new_tree : Tree
    new_tree = close_ring g.tree g.first g.second g.places g.sense one other

    new_sum : (f : ℕ → ℤ) → search_sum (summed f) (forest (new_tree ∷ g.trees) s.mates)
        ≡ search_sum (summed f) s
    new_sum f =
        let a = ring_sum (summed f) g.tree.root g.tree.branches g.first g.second g.places g.sense
        one other in
        let b = tree_first_sum (summed f) s.trees g.tree g.trees g.tree_first in
        let c = with_sum (summed f) g.tree.root g.tree.branches g.first g.second g.places
        (as_one ring) in
        let d = summed_shrunk ring f in
        omega (
          arith,
          ints,
          a,
          b,
          c,
          d,
          int_sum_by-cons (tree_sum (summed f)) g.tree g.trees,
          int_sum_by-cons (tree_sum (summed f)) new_tree g.trees,
        )
