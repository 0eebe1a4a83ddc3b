-- A tree and a matched pair are brought to the front.
use Rattle.std.proofs.Common.{◌≡◌, ℕ, List, [], ◌∷◌, ◌++◌, refl, sym, ap, arith, subst, ◌⊎◌, inl, inr}
use Rattle.std.specs.Prelude.{ℤ}
use Rattle.std.proofs.lemmas.Int.{ints}
use Rattle.matching_model.specs.Sums.{int_sum_by}
use Rattle.matching_model.specs.Blossoms.{Side}
use Rattle.matching_model.specs.Forests.{Mate, Tree, Measure, IsOuter, Outer, Away, tree_sum, mate_sum, search_sum, Search, marked_branches, marked_trees, marked_mates}
use Rattle.matching_model.proofs.IntSums.{int_sum_by-cons, int_sum_by-append}
use Rattle.matching_model.proofs.Events.{IsAt as Stands, at_split}
use Rattle.matching_model.proofs.FreeSteps.{outer_place, same_side}
use Rattle.matching_laws.specs.StepLaws.{forest}
use Rattle.shown_search.specs.Shown.{Kept, AreTrees, ArePaired, IsTree, IsAway}
use Rattle.shown_search.specs.Growing.{TreeFirst, MateFirst, turned}
use Rattle.matching_ends.specs.Mated.{AreMates}

abbrev pub no_dist : ℕ → ℕ → ℕ
no_dist u w = 0

-- ---- a tree with an outer set
pub record TreeWith (ts : List Tree) (x : Side) : Type 0 where
  pub tree : Tree
  pub trees : List Tree
  pub first : TreeFirst ts tree trees
  pub place : IsOuter tree.root tree.branches x

pub tree_with : (ts : List Tree) (x : Side) → Stands (Outer, x) (marked_trees ts) → TreeWith ts x
tree_with [] x at = absurd at
tree_with (t ∷ ts) x at =
    by_place (at_split (Outer, x) ((Outer, t.root) ∷ marked_branches t.branches)
    (marked_trees ts) at) (λ r. tree_with ts x r)
  where
    by_place : (Stands (Outer, x) ((Outer, t.root) ∷ marked_branches t.branches) ⊎ Stands (
      Outer,
      x,
    ) (marked_trees ts)) → (Stands (Outer, x) (marked_trees ts) → TreeWith ts x) →
        TreeWith (t ∷ ts) x
    by_place (inl l) later = record {
      tree = t;
      trees = ts;
      first = record { before = []; behind = ts; whole = refl; rest = refl };
      place = outer_place no_dist (λ u v. refl) x t l;
    }
    by_place (inr r) later =
        let k = later r in
        record {
          tree = k.tree;
          trees = t ∷ k.trees;
          first = record {
            before = t ∷ k.first.before;
            behind = k.first.behind;
            whole = ap (λ xs. t ∷ xs) k.first.whole;
            rest = ap (λ xs. t ∷ xs) k.first.rest;
          };
          place = k.place;
        }

-- ---- a matched pair with a set
pub record PairWith (ps : List Mate) (y : Side) : Type 0 where
  pub pair : Mate
  pub mates : List Mate
  pub first : MateFirst ps pair mates
  pub is_one : pair.one ≡ y

pub pair_with : (ps : List Mate) (y : Side) → Stands (Away, y) (marked_mates ps) → PairWith ps y
pair_with [] y at = absurd at
pair_with (p ∷ ps) y (inl e) = record {
  pair = p;
  mates = ps;
  first = record {
    before = [];
    same = p;
    behind = ps;
    whole = refl;
    rest = refl;
    either = inl refl;
  };
  is_one = same_side Away y p.one e;
}
pair_with (p ∷ ps) y (inr (inl e)) = record {
  pair = turned p;
  mates = ps;
  first = record {
    before = [];
    same = p;
    behind = ps;
    whole = refl;
    rest = refl;
    either = inr refl;
  };
  is_one = same_side Away y p.two e;
}
pair_with (p ∷ ps) y (inr (inr h)) =
    let k = pair_with ps y h in
    record {
      pair = k.pair;
      mates = p ∷ k.mates;
      first = record {
        before = p ∷ k.first.before;
        same = k.first.same;
        behind = k.first.behind;
        whole = ap (λ xs. p ∷ xs) k.first.whole;
        rest = ap (λ xs. p ∷ xs) k.first.rest;
        either = k.first.either;
      };
      is_one = k.is_one;
    }

-- ---- sums
pub tree_first_sum : (m : Measure) (ts : List Tree) (tree : Tree) (trees : List Tree) →
    TreeFirst ts tree trees →
    int_sum_by (tree_sum m) (tree ∷ trees) ≡ int_sum_by (tree_sum m) ts
tree_first_sum m ts tree trees f =
    let a : int_sum_by (tree_sum m) ts ≡ int_sum_by (tree_sum m) (f.before ++ tree ∷ f.behind) =
    ap (int_sum_by (tree_sum m)) f.whole in
    let b : int_sum_by (tree_sum m) trees ≡ int_sum_by (tree_sum m) (f.before ++ f.behind) =
    ap (int_sum_by (tree_sum m)) f.rest in
    omega (
      arith,
      ints,
      a,
      b,
      int_sum_by-append (tree_sum m) f.before (tree ∷ f.behind),
      int_sum_by-append (tree_sum m) f.before f.behind,
      int_sum_by-cons (tree_sum m) tree f.behind,
      int_sum_by-cons (tree_sum m) tree trees,
    )

turned_sum : (m : Measure) (p q : Mate) → (p ≡ q) ⊎ (p ≡ turned q) → mate_sum m p ≡ mate_sum m q
turned_sum m p q (inl e) = ap (mate_sum m) e
turned_sum m p q (inr e) = let k : mate_sum m p ≡ mate_sum m (turned q) = ap (mate_sum m) e in
    omega (arith, ints, k)

pub mate_first_sum : (m : Measure) (ps : List Mate) (p : Mate) (mates : List Mate) →
    MateFirst ps p mates →
    int_sum_by (mate_sum m) (p ∷ mates) ≡ int_sum_by (mate_sum m) ps
mate_first_sum m ps p mates f =
    let a : int_sum_by (mate_sum m) ps ≡ int_sum_by (mate_sum m) (f.before ++ f.same ∷ f.behind) =
    ap (int_sum_by (mate_sum m)) f.whole in
    let b : int_sum_by (mate_sum m) mates ≡ int_sum_by (mate_sum m) (f.before ++ f.behind) =
    ap (int_sum_by (mate_sum m)) f.rest in
    let c = turned_sum m p f.same f.either in
    omega (
      arith,
      ints,
      a,
      b,
      c,
      int_sum_by-append (mate_sum m) f.before (f.same ∷ f.behind),
      int_sum_by-append (mate_sum m) f.before f.behind,
      int_sum_by-cons (mate_sum m) f.same f.behind,
      int_sum_by-cons (mate_sum m) p mates,
    )

pub front_sum : (m : Measure) (s : Search) (tree : Tree) (trees : List Tree) (p : Mate)
    (mates : List Mate) → TreeFirst s.trees tree trees → MateFirst s.mates p mates →
    search_sum m (forest (tree ∷ trees) (p ∷ mates)) ≡ search_sum m s
front_sum m s tree trees p mates f g = let a = tree_first_sum m s.trees tree trees f in
    let b = mate_first_sum m s.mates p mates g in omega (arith, ints, a, b)

-- ---- what is shown
module _ (k : Kept) (number : ℕ → ℤ) where
  trees_part : (before : List Tree) (tree : Tree) (behind : List Tree) →
      AreTrees k number (before ++ tree ∷ behind) →
      IsTree k number tree × AreTrees k number (before ++ behind)
  trees_part [] tree behind h = h
  trees_part (t ∷ before) tree behind h = let j = trees_part before tree behind h.1 in
      (j.0, (h.0, j.1))

  pub trees_front : (ts : List Tree) (tree : Tree) (trees : List Tree) → TreeFirst ts tree trees →
      AreTrees k number ts → IsTree k number tree × AreTrees k number trees
  trees_front ts tree trees f h =
      let j = trees_part f.before tree f.behind (subst (AreTrees k number) f.whole h) in
      (j.0, subst (AreTrees k number) (sym f.rest) j.1)

  -- a pair is shown
  abbrev pub IsPaired : Mate → Type 0
  IsPaired p = IsAway k number p.one p.at_one × IsAway k number p.two p.at_two × AreMates k.mate
      p.at_one p.at_two

  pairs_part : (before : List Mate) (p : Mate) (behind : List Mate) →
      ArePaired k number (before ++ p ∷ behind) → IsPaired p × ArePaired k number (before ++ behind)
  pairs_part [] p behind h = h
  pairs_part (q ∷ before) p behind h = let j = pairs_part before p behind h.1 in (j.0, (h.0, j.1))

  turned_paired : (p q : Mate) → (p ≡ q) ⊎ (p ≡ turned q) → IsPaired q → IsPaired p
  turned_paired p q (inl e) h = subst IsPaired (sym e) h
  turned_paired p q (inr e) h = subst IsPaired (sym e) (h.1, h.0, (h.2.1, h.2.0))

  pub pairs_front : (ps : List Mate) (p : Mate) (mates : List Mate) → MateFirst ps p mates →
      ArePaired k number ps → IsPaired p × ArePaired k number mates
  pairs_front ps p mates f h =
      let j = pairs_part f.before f.same f.behind (subst (ArePaired k number) f.whole h) in
      (turned_paired p f.same f.either j.0, subst (ArePaired k number) (sym f.rest) j.1)
