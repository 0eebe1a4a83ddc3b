-- Two outer sets of one tree, by the labels of their names.
use Rattle.std.proofs.Common.{◌≡◌, ℕ, ◌<◌, true, List, [], ◌∷◌, ◌++◌, map, reverse, refl, sym, ap, ◌∙◌, arith, subst, ⊎_elim, ◌⊎◌, inl, inr}
use Rattle.std.specs.Prelude.{ℤ}
use Rattle.std.proofs.lemmas.Int.{ints}
use Rattle.std.proofs.lemmas.Bool.{false≢true}
use Rattle.graph_model.specs.Graph.{is_in}
use Rattle.matching_model.specs.Sums.{int_sum_by}
use Rattle.matching_model.specs.Matchings.{AreApart}
use Rattle.matching_model.specs.Blossoms.{Side, has, members, side_members}
use Rattle.matching_model.specs.Forests.{Branches, branch, Tree, Search, Measure, of, search_sum, summed, IsSound, IsOuter, root, below, beside, Outer, marked_trees, marked_mates}
use Rattle.matching_model.proofs.IntSums.{int_sum_by-append}
use Rattle.matching_model.proofs.Crossed.{apart_append}
use Rattle.matching_model.proofs.Ending.{covers_low}
use Rattle.matching_model.proofs.Events.{IsAt as Stands, at_split}
use Rattle.matching_model.proofs.FreeSteps.{no_outer_mates}
use Rattle.matching_model.proofs.Slacks.{branch_items, summed_ring, tree_items, tree_items_sum, mate_items, mate_items_sum, sums_apart}
use Rattle.matching_laws.proofs.Closing.{members_append}
use Rattle.shown_search.specs.Shown.{Kept, IsInTree, AreBranches, IsTree, AreTrees, Shows}
use Rattle.shown_search.specs.Growing.{TreeFirst}
use Rattle.shown_search.proofs.Beside.{in_first, in_later, in_left, in_right}
use Rattle.shown_search.proofs.Entries.{Found, found}
use Rattle.shown_search.proofs.Fronts.{TreeWith, no_dist, tree_first_sum, tree_with, trees_front}
use Rattle.shown_ways.proofs.Way.{on, way}
use Rattle.forest_laws.specs.Meeting.{Meets, MeetingLaw}
use Rattle.forest_laws.proofs.Forks.{Fork, downs, fork, way_is}
use Rattle.shown_matches.specs.Augmenting.{AreOn, way_vertices}

-- ---- two trees of a list are one, or the second is another
pub data IsAmong : Tree → List Tree → Type 0 where
  at_first : {t : Tree} {ts : List Tree} (same : Tree) → same ≡ t → IsAmong same (t ∷ ts)
  at_later : {x t : Tree} {ts : List Tree} → IsAmong x ts → IsAmong x (t ∷ ts)

among_right : (x : Tree) (xs ys : List Tree) → IsAmong x ys → IsAmong x (xs ++ ys)
among_right x [] ys h = h
among_right x (t ∷ xs) ys h = at_later (among_right x xs ys h)

among_middle : (x : Tree) (xs ys : List Tree) → IsAmong x (xs ++ x ∷ ys)
among_middle x xs ys = among_right x xs (x ∷ ys) (at_first x refl)

among_parts : (x y : Tree) (xs ys : List Tree) → IsAmong x (xs ++ y ∷ ys) →
    (x ≡ y) ⊎ IsAmong x (xs ++ ys)
among_parts x y [] ys (at_first same e) = inl e
among_parts x y [] ys (at_later h) = inr h
among_parts x y (t ∷ xs) ys (at_first same e) = inr (at_first same e)
among_parts x y (t ∷ xs) ys (at_later h) =
    ⊎_elim (λ e. inl e) (λ m. inr (at_later m)) (among_parts x y xs ys h)

one_or_other : (ts : List Tree) (x y : Tree) (xs ys : List Tree) → TreeFirst ts x xs →
    TreeFirst ts y ys → (y ≡ x) ⊎ IsAmong y xs
one_or_other ts x y xs ys f g =
    ⊎_elim (λ e. inl e) (λ m. inr (subst (IsAmong y) (sym f.rest) m))
    (among_parts y x f.before f.behind (subst (IsAmong y) (sym g.whole ∙ f.whole)
    (among_middle y g.before g.behind)))

module _ (k : Kept) (number : ℕ → ℤ) where
  -- a tree among others is shown, and its root is among their sets
  pub record Shown (x : Tree) (ts : List Tree) : Type 0 where
    pub shown : IsTree k number x
    pub inside : (v : ℕ) → has x.root v → is_in (side_members (tree_items ts)) v ≡ true

  shown_among : (x : Tree) (ts : List Tree) → AreTrees k number ts → IsAmong x ts → Shown x ts
  shown_among x [] h m = elim m [ ]
  shown_among x (t ∷ ts) h (at_first same e) = record {
    shown = subst (IsTree k number) (sym e) h.0;
    inside = λ v m. in_first t.root (branch_items t.branches ++ tree_items ts) v
        (subst (λ (z : Tree). has z.root v) e m);
  }
  shown_among x (t ∷ ts) h (at_later m) =
      let later = shown_among x ts h.1 m in
      record {
        shown = later.shown;
        inside = λ v i. in_later t.root (branch_items t.branches ++ tree_items ts) v
            (in_right (branch_items t.branches) (tree_items ts) v (later.inside v i));
      }

  -- the label of an outer set of a tree
  label_in : (r : ℕ) (top : Side) (z : ℕ) (bs : Branches) (x : Side) (q : IsOuter top bs x)
      (u : ℕ) → IsInTree k number r Outer top z → AreBranches k number r bs → has x u →
      k.label (k.top u) ≡ r
  label_in r top z bs x root u t h m = ap k.label (t.at.tops u m) ∙ t.labelled
  label_in r top z (branch o i inner a b outer sub rest) x (below q) u t h m =
      label_in r outer b sub x q u h.1 h.3 m
  label_in r top z (branch o i inner a b outer sub rest) x (beside q) u t h m =
      label_in r top z rest x q u t h.4 m

module _ (dist : ℕ → ℕ → ℕ) (turn : (u v : ℕ) → dist u v ≡ dist v u) (k : Kept)
    (number : ℕ → ℤ) (s : Search) (h : Shows k number s) (sound : IsSound dist k.vertices s)
  where
    tree_of : (u : ℕ) → k.mark (k.top u) ≡ Outer → (f : Found k number s u) →
        TreeWith s.trees f.side
    tree_of u outer f =
        let at : Stands (Outer, f.side) (marked_trees s.trees ++ marked_mates s.mates) =
        subst (λ m. Stands (m, f.side) (marked_trees s.trees ++ marked_mates s.mates)) outer
        f.stands in
        tree_with s.trees f.side (⊎_elim (λ l. l) (λ r. absurd (no_outer_mates s.mates f.side r))
        (at_split (Outer, f.side) (marked_trees s.trees) (marked_mates s.mates) at))

    module _ (tree : Tree) (trees : List Tree) (first : TreeFirst s.trees tree trees) where
      abbrev shown : IsTree k number tree × AreTrees k number trees
      shown = trees_front k number s.trees tree trees first h.trees

      abbrev all : List Side
      all = (tree.root ∷ (branch_items tree.branches ++ tree_items trees)) ++ mate_items s.mates

      all_sum : (m : Measure) → int_sum_by (of m) all ≡ search_sum m s
      all_sum m =
          let b = tree_first_sum m s.trees tree trees first in
          omega (
            arith,
            ints,
            b,
            int_sum_by-append (of m) (tree_items (tree ∷ trees)) (mate_items s.mates),
            tree_items_sum m (tree ∷ trees),
            mate_items_sum m s.mates,
          )

      all_apart : AreApart (side_members all)
      all_apart = sums_apart no_dist k.vertices all (λ f. all_sum (summed f) ∙ h.covers f)

      trees_apart : AreApart (side_members (tree.root ∷ (branch_items tree.branches
          ++ tree_items trees)))
      trees_apart = (apart_append (side_members (tree_items (tree ∷ trees)))
          (side_members (mate_items s.mates))
          (subst AreApart (members_append (tree_items (tree ∷ trees)) (mate_items s.mates))
          all_apart)).0

      branches_apart : AreApart (side_members (branch_items tree.branches))
      branches_apart =
          let behind = (apart_append (members tree.root.body)
          (side_members (branch_items tree.branches ++ tree_items trees)) trees_apart).1 in
          (apart_append (side_members (branch_items tree.branches))
          (side_members (tree_items trees))
          (subst AreApart (members_append (branch_items tree.branches) (tree_items trees))
          behind)).0

      low : (v : ℕ) → is_in (side_members (branch_items tree.branches)) v ≡ true → v < k.vertices
      low v m = covers_low k.vertices (side_members all)
          (λ f. summed_ring all f ∙ (all_sum (summed f) ∙ h.covers f)) v
          (in_left (tree_items (tree ∷ trees)) (mate_items s.mates) v
          (in_later tree.root (branch_items tree.branches ++ tree_items trees) v
          (in_left (branch_items tree.branches) (tree_items trees) v m)))

      -- another tree has another unmatched vertex
      other_free : (x : Tree) (o : Shown k number x trees) → o.shown.free ≡ shown.0.free → ⊥
      other_free x o e =
          let here : has tree.root o.shown.free =
          subst (has tree.root) (sym e) shown.0.root.at.holds in
          let there = in_right (branch_items tree.branches) (tree_items trees) o.shown.free
          (o.inside o.shown.free o.shown.root.at.holds) in
          false≢true (sym ((apart_append (members tree.root.body)
          (side_members (branch_items tree.branches ++ tree_items trees)) trees_apart).2
          o.shown.free here) ∙ there)

    -- an outer set with the label of a tree is in it
    moved_place : (t tree : Tree) (x : Side) → t ≡ tree → IsOuter t.root t.branches x →
        IsOuter tree.root tree.branches x
    moved_place t tree x e q = subst (λ (z : Tree). IsOuter z.root z.branches x) e q

    in_tree : (w : ℕ) (y : Side) (t : TreeWith s.trees y) → has y w → (tree : Tree)
        (trees : List Tree) (first : TreeFirst s.trees tree trees) →
        k.label (k.top w) ≡ (shown tree trees first).0.free → IsOuter tree.root tree.branches y
    in_tree w y t m tree trees first same =
        ⊎_elim (λ e. moved_place t.tree tree y e t.place)
        (λ among.
        let o = shown_among k number t.tree trees (shown tree trees first).1 among in
        absurd (other_free tree trees first t.tree o
        (sym (label_in k number o.shown.free t.tree.root o.shown.free t.tree.branches y t.place w
        o.shown.root o.shown.branches m) ∙ same)))
        (one_or_other s.trees tree t.tree trees t.trees first t.first)

    module _ (u w : ℕ) (f : Found k number s u) (g : Found k number s w)
        (t : TreeWith s.trees f.side) (t' : TreeWith s.trees g.side)
        (same : k.label (k.top u) ≡ k.label (k.top w)) (ne : k.top u ≡ k.top w → ⊥) where
      abbrev mine : IsTree k number t.tree
      mine = (shown t.tree t.trees t.first).0

      place : IsOuter t.tree.root t.tree.branches g.side
      place = in_tree w g.side t' g.holds t.tree t.trees t.first
          (sym same ∙ label_in k number mine.free t.tree.root mine.free t.tree.branches f.side
          t.place u mine.root mine.branches f.holds)

      abbrev other : TreeWith s.trees g.side
      other = record { tree = t.tree; trees = t.trees; first = t.first; place = place }

      abbrev on_u : AreOn t.tree.root t.tree.branches f.side t.place u
      on_u = on dist turn k number s u h sound f.side t f.holds

      abbrev on_w : AreOn t.tree.root t.tree.branches g.side place w
      on_w = on dist turn k number s w h sound g.side other g.holds

      forked : Fork k number mine.free t.tree.root t.tree.branches u w
          (map k.top (way_vertices t.tree.root t.tree.branches f.side t.place u))
          (map k.top (way_vertices t.tree.root t.tree.branches g.side place w))
      forked =
          subst (λ ws. Fork k number mine.free t.tree.root t.tree.branches u w ws
          (map k.top (way_vertices t.tree.root t.tree.branches g.side place w)))
          (sym (way_is k number mine.free t.tree.root mine.free t.tree.branches f.side t.place u
          mine.root mine.branches on_u))
          (subst (λ ws. Fork k number mine.free t.tree.root t.tree.branches u w
          (mine.root.name
          ∷ downs k number mine.free t.tree.root t.tree.branches f.side t.place u) ws)
          (sym (way_is k number mine.free t.tree.root mine.free t.tree.branches g.side place w
          mine.root mine.branches on_w))
          (fork k number mine.free t.tree.root mine.free t.tree.branches f.side g.side t.place place
          u w mine.root mine.branches on_u on_w (low t.tree t.trees t.first)
          (branches_apart t.tree t.trees t.first) f.holds g.holds ne))

      meets : Meets k s u w
      meets = record {
        tree = t.tree;
        trees = t.trees;
        tree_first = t.first;
        first = forked.first;
        second = forked.second;
        places = forked.places;
        sense = forked.sense;
        ends = forked.ends;
        above = forked.above;
        common = forked.common;
        one = forked.one;
        two = forked.two;
        one_way = way dist turn k number s u h sound f.side t f.holds ∙ ap reverse forked.one_is;
        two_way = way dist turn k number s w h sound g.side other g.holds
            ∙ ap reverse forked.two_is;
        apart = forked.apart;
        names = forked.names;
        own = forked.own;
      }

pub meeting_law : MeetingLaw
meeting_law dist turn k number s u w h sound low_u low_w outer outer' same ne =
    let f = found k number s h u low_u in
    let g = found k number s h w low_w in
    meets dist turn k number s h sound u w f g (tree_of dist turn k number s h sound u outer f)
    (tree_of dist turn k number s h sound w outer' g) same ne
