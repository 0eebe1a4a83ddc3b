-- The way from an outer set to the root of its tree.
use Rattle.std.proofs.Common.{◌≡◌, ℕ, suc, ◌+◌, ◌-◌, ◌≤◌, ◌<◌, true, false, List, [], ◌∷◌, ◌++◌, length, map, reverse, refl, sym, ap, ◌∙◌, arith, subst, ⊎_elim}
use Rattle.std.specs.Prelude.{ℤ}
use Rattle.std.proofs.lemmas.Int.{ints}
use Rattle.std.proofs.lemmas.Bool.{false≢true, false_from_ne_true}
use Rattle.graph_model.specs.Graph.{is_in}
use Rattle.graph_model.proofs.Members.{is_in_cases}
use Rattle.matching_model.specs.Sums.{int_sum_by}
use Rattle.matching_model.specs.Matchings.{AreApart}
use Rattle.matching_model.specs.Blossoms.{Side, has, members, side_members}
use Rattle.matching_model.specs.Forests.{Branches, branch, Tree, Search, Measure, of, tree_sum, search_sum, summed, AreBranches as AreSoundBranches, IsSound, IsOuter, root, below, beside, Outer, marked_trees, marked_mates}
use Rattle.matching_model.proofs.IntSums.{int_sum_by-cons, int_sum_by-append}
use Rattle.matching_model.proofs.Crossed.{apart_append}
use Rattle.matching_model.proofs.Ending.{covers_low}
use Rattle.matching_model.proofs.Events.{IsAt as Stands, at_split}
use Rattle.matching_model.proofs.FreeSteps.{no_outer_mates}
use Rattle.matching_model.proofs.ShortWalks.{apart_few}
use Rattle.matching_model.proofs.Slacks.{summed_ring, tree_items, tree_items_sum, mate_items, mate_items_sum, sums_apart}
use Rattle.matching_laws.proofs.Closing.{members_append}
use Rattle.shown_search.specs.Shown.{Kept, IsTree, AreTrees, Shows}
use Rattle.shown_search.proofs.Beside.{in_first, in_later, in_left}
use Rattle.shown_search.proofs.Entries.{Found, found}
use Rattle.shown_search.proofs.Fronts.{TreeWith, no_dist, tree_first_sum, tree_with, trees_front}
use Rattle.shown_search.proofs.Taking.{tree_sound}
use Rattle.shown_matches.specs.Augmenting.{AreOn, way_vertices}
use Rattle.shown_matches.proofs.Matching.{off_items, way_sides, way_sum}
use Rattle.shown_ways.specs.Climbing.{IsRooted, RootedLaw, climb}
use Rattle.shown_ways.proofs.Climbing.{climbs, ends_at, outer_tie, steps, ups, ups_with_top, way_length}

-- the pairs of a sound tree are between its sets
are_on : (dist : ℕ → ℕ → ℕ) (t : ℤ) (top : Side) (bs : Branches) (x : Side)
    (q : IsOuter top bs x) (u : ℕ) → AreSoundBranches dist t top bs → has x u → AreOn top bs x q u
are_on dist t top bs x root u h m = m
are_on dist t top (branch o i inner a b outer sub rest) x (below q) u h m =
    (h.2.in_one, h.2.in_two, are_on dist t outer sub x q u h.4 m)
are_on dist t top (branch o i inner a b outer sub rest) x (beside q) u h m =
    are_on dist t top rest x q u h.5 m

-- vertices of sets that are apart are apart
abbrev AreIn : List Side → List ℕ → Type 0
AreIn [] [] = Unit {0}
AreIn [] (v ∷ vs) = ⊥
AreIn (y ∷ ys) [] = ⊥
AreIn (y ∷ ys) (v ∷ vs) = has y v × AreIn ys vs

in_members : (ys : List Side) (vs : List ℕ) → AreIn ys vs → (v : ℕ) → is_in vs v ≡ true →
    is_in (side_members ys) v ≡ true
in_members [] [] h v m = absurd (false≢true m)
in_members [] (w ∷ vs) h v m = absurd h
in_members (y ∷ ys) [] h v m = absurd h
in_members (y ∷ ys) (w ∷ vs) h v m =
    ⊎_elim (λ e. in_first y ys v (subst (has y) e h.0))
    (λ r. in_later y ys v (in_members ys vs h.1 v r)) (is_in_cases w v vs m)

vertices_apart : (ys : List Side) (vs : List ℕ) → AreIn ys vs → AreApart (side_members ys) →
    AreApart vs
vertices_apart [] [] h apart = tt
vertices_apart [] (v ∷ vs) h apart = absurd h
vertices_apart (y ∷ ys) [] h apart = absurd h
vertices_apart (y ∷ ys) (v ∷ vs) h apart =
    let parts = apart_append (members y.body) (side_members ys) apart in (
      false_from_ne_true (is_in vs v) (λ m. false≢true (sym (parts.2 v h.0)
          ∙ in_members ys vs h.1 v m)),
      vertices_apart ys vs h.1 parts.1,
    )

on_in : (top : Side) (bs : Branches) (x : Side) (q : IsOuter top bs x) (u : ℕ) →
    AreOn top bs x q u → AreIn (way_sides top bs x q) (way_vertices top bs x q u)
on_in top bs x root u on = (on, tt)
on_in top (branch o i inner a b outer sub rest) x (below q) u on =
    (on.0, (on.1, on_in outer sub x q u on.2))
on_in top (branch o i inner a b outer sub rest) x (beside q) u on = on_in top rest x q u on

module _ (dist : ℕ → ℕ → ℕ) (turn : (u v : ℕ) → dist u v ≡ dist v u) (k : Kept)
    (number : ℕ → ℤ) (s : Search) (u : ℕ) (h : Shows k number s)
    (sound : IsSound dist k.vertices s) (x : Side) (t : TreeWith s.trees x) (holds : has x u) where
  shown : IsTree k number t.tree × AreTrees k number t.trees
  shown = trees_front k number s.trees t.tree t.trees t.first h.trees

  abbrev r : ℕ
  r = shown.0.free

  pub on : AreOn t.tree.root t.tree.branches x t.place u
  on =
      let front = tree_sound dist turn k.vertices s t.tree t.trees t.first sound in
      are_on dist front.rise t.tree.root t.tree.branches x t.place u front.trees.0.1 holds

  abbrev sides : List Side
  sides = way_sides t.tree.root t.tree.branches x t.place

  abbrev others : List Side
  others = off_items t.tree.root t.tree.branches x t.place
      ++ (tree_items t.trees ++ mate_items s.mates)

  all_sum : (m : Measure) → int_sum_by (of m) (sides ++ others) ≡ search_sum m s
  all_sum m =
      let a = way_sum m t.tree.root t.tree.branches x t.place in
      let b = tree_first_sum m s.trees t.tree t.trees t.first in
      let off = off_items t.tree.root t.tree.branches x t.place in
      omega (
        arith,
        ints,
        a,
        b,
        int_sum_by-append (of m) sides others,
        int_sum_by-append (of m) off (tree_items t.trees ++ mate_items s.mates),
        int_sum_by-append (of m) (tree_items t.trees) (mate_items s.mates),
        tree_items_sum m t.trees,
        mate_items_sum m s.mates,
        int_sum_by-cons (tree_sum m) t.tree t.trees,
      )

  whole_apart : AreApart (side_members (sides ++ others))
  whole_apart = sums_apart no_dist k.vertices (sides ++ others)
      (λ f. all_sum (summed f) ∙ h.covers f)

  sides_apart : AreApart (side_members sides)
  sides_apart = (apart_append (side_members sides) (side_members others)
      (subst AreApart (members_append sides others) whole_apart)).0

  abbrev ways : List ℕ
  ways = way_vertices t.tree.root t.tree.branches x t.place u

  low : (v : ℕ) → is_in ways v ≡ true → v < k.vertices
  low v m =
      covers_low k.vertices (side_members (sides ++ others))
      (λ f. summed_ring (sides ++ others) f ∙ (all_sum (summed f) ∙ h.covers f)) v
      (in_left sides others v (in_members sides ways
      (on_in t.tree.root t.tree.branches x t.place u on) v m))

  few : length ways ≤ k.vertices
  few = apart_few ways k.vertices (vertices_apart sides ways
      (on_in t.tree.root t.tree.branches x t.place u on) sides_apart) low

  -- how many more sets the way might have
  spare : ℕ
  spare = k.vertices - length ways

  pub way : climb k.vertices k (k.top u) ≡ reverse (map k.top ways)
  unfolding spare
  way =
      let len = way_length k number r t.tree.root t.tree.branches x t.place u in
      let all : k.vertices ≡ steps k number r t.tree.root t.tree.branches x t.place + suc spare =
      omega (arith, few, len) in
      ap (λ n. climb n k (k.top u)) all
      ∙ climbs k number r t.tree.root r t.tree.branches x t.place u (suc spare) shown.0.root
      shown.0.branches on
      ∙ ap (λ zs. ups k number r t.tree.root t.tree.branches x t.place ++ zs)
      (ends_at k number r spare shown.0.root.name r
      (outer_tie k number r t.tree.root r shown.0.root
      ∙ ap (λ (z : ℕ). (r, z)) shown.0.unmatched))
      ∙ ups_with_top k number r t.tree.root r t.tree.branches x t.place u shown.0.root
      shown.0.branches on

  is_rooted : IsRooted k s u
  is_rooted = record {
    tree = t.tree;
    trees = t.trees;
    tree_first = t.first;
    side = x;
    place = t.place;
    on = on;
    way = way;
  }

pub rooted_law : RootedLaw
rooted_law dist turn k number s u h sound low_u outer = from (found k number s h u low_u)
  where
    from : Found k number s u → IsRooted k s u
    from f =
        let at : Stands (Outer, f.side) (marked_trees s.trees ++ marked_mates s.mates) =
        subst (λ m. Stands (m, f.side) (marked_trees s.trees ++ marked_mates s.mates)) outer
        f.stands in
        is_rooted dist turn k number s u h sound f.side (tree_with s.trees f.side
        (⊎_elim (λ l. l) (λ r. absurd (no_outer_mates s.mates f.side r))
        (at_split (Outer, f.side) (marked_trees s.trees) (marked_mates s.mates) at))) f.holds
