-- What is kept elsewhere: sets that share no vertex with some that are gone are shown as before.
use Rattle.std.proofs.Common.{◌≡◌, ℕ, ◌||◌, Bool, true, false, List, [], ◌∷◌, ◌++◌, refl, ap, ◌∙◌}
use Rattle.std.specs.Prelude.{ℤ}
use Rattle.graph_model.specs.Graph.{is_in}
use Rattle.matching_model.specs.Blossoms.{Side, has, members, side_members}
use Rattle.matching_model.specs.Forests.{Branches, leaf, branch, Mate, Tree, Mark, Outer, Inner, Away}
use Rattle.matching_model.proofs.Exposed.{is_in-append}
use Rattle.matching_model.proofs.Slacks.{branch_items, tree_items, mate_items}
use Rattle.matching_laws.specs.Constructions.{all_on}
use Rattle.matching_laws.proofs.Closing.{members_append}
use Rattle.matching_ends.specs.Mated.{AreMates}
use Rattle.shown_search.specs.Shown.{Kept, IsAt, IsInTree, IsLinked, AreBranches, AreTrees, IsAway, ArePaired}

-- ---- vertices of sets
pub or_true : (b : Bool) → b || true ≡ true
or_true true = refl
or_true false = refl

pub in_first : (x : Side) (xs : List Side) (v : ℕ) → has x v →
    is_in (side_members (x ∷ xs)) v ≡ true
in_first x xs v m = is_in-append (members x.body) (side_members xs) v
    ∙ ap (λ b. b || is_in (side_members xs) v) m

pub in_later : (x : Side) (xs : List Side) (v : ℕ) → is_in (side_members xs) v ≡ true →
    is_in (side_members (x ∷ xs)) v ≡ true
in_later x xs v m = is_in-append (members x.body) (side_members xs) v
    ∙ ap (λ b. is_in (members x.body) v || b) m ∙ or_true (is_in (members x.body) v)

pub in_left : (xs ys : List Side) (v : ℕ) → is_in (side_members xs) v ≡ true →
    is_in (side_members (xs ++ ys)) v ≡ true
in_left xs ys v m = ap (λ zs. is_in zs v) (members_append xs ys)
    ∙ is_in-append (side_members xs) (side_members ys) v
    ∙ ap (λ b. b || is_in (side_members ys) v) m

pub in_right : (xs ys : List Side) (v : ℕ) → is_in (side_members ys) v ≡ true →
    is_in (side_members (xs ++ ys)) v ≡ true
in_right xs ys v m = ap (λ zs. is_in zs v) (members_append xs ys)
    ∙ is_in-append (side_members xs) (side_members ys) v
    ∙ ap (λ b. is_in (side_members xs) v || b) m ∙ or_true (is_in (side_members xs) v)

-- branches end to end
pub all_on_shown : (k : Kept) (number : ℕ → ℤ) (r : ℕ) (bs cs : Branches) →
    AreBranches k number r bs → AreBranches k number r cs → AreBranches k number r (all_on bs cs)
all_on_shown k number r leaf cs a b = b
all_on_shown k number r (branch o i inner c d outer sub rest) cs a b =
    (a.0, a.1, a.2, a.3, all_on_shown k number r rest cs a.4 b)

pub paired_append : (k : Kept) (number : ℕ → ℤ) (ps qs : List Mate) → ArePaired k number ps →
    ArePaired k number qs → ArePaired k number (ps ++ qs)
paired_append k number [] qs a b = b
paired_append k number (p ∷ ps) qs a b = (a.0, paired_append k number ps qs a.1 b)

-- ---- what is shown before and after
-- where each outermost set without a gone vertex is shown after as before, with its label and link
module _ (k k' : Kept) (number number' : ℕ → ℤ) (gone : List ℕ) (at : (m : Mark) (s : ℕ)
    (x : Side) (v : ℕ) → is_in gone v ≡ false → IsAt k number m s x v → IsAt k' number' m s x v)
    (label : (m : Mark) (s : ℕ) (x : Side) (v : ℕ) → is_in gone v ≡ false →
    IsAt k number m s x v → k'.label s ≡ k.label s)
    (link : (m : Mark) (s : ℕ) (x : Side) (v : ℕ) → is_in gone v ≡ false →
    IsAt k number m s x v → k'.link s ≡ k.link s)
    (mates : (u w : ℕ) → AreMates k.mate u w → AreMates k'.mate u w)
    (unmatched : (u : ℕ) → k.mate u ≡ u → k'.mate u ≡ u) where
  abbrev pub Outside : List Side → Type 0
  Outside xs = (v : ℕ) → is_in (side_members xs) v ≡ true → is_in gone v ≡ false

  pub outside_left : (xs ys : List Side) → Outside (xs ++ ys) → Outside xs
  outside_left xs ys out v m = out v (in_left xs ys v m)

  pub outside_right : (xs ys : List Side) → Outside (xs ++ ys) → Outside ys
  outside_right xs ys out v m = out v (in_right xs ys v m)

  pub outside_one : (x : Side) (xs : List Side) → Outside (x ∷ xs) → (v : ℕ) → has x v →
      is_in gone v ≡ false
  outside_one x xs out v m = out v (in_first x xs v m)

  pub outside_rest : (x : Side) (xs : List Side) → Outside (x ∷ xs) → Outside xs
  outside_rest x xs out v m = out v (in_later x xs v m)

  pub in_tree_beside : (r : ℕ) (m : Mark) (x : Side) (v : ℕ) → is_in gone v ≡ false →
      IsInTree k number r m x v → IsInTree k' number' r m x v
  in_tree_beside r m x v out h = record {
    name = h.name;
    at = at m h.name x v out h.at;
    labelled = label m h.name x v out h.at ∙ h.labelled;
  }

  pub linked_beside : (r o i : ℕ) (x : Side) (v : ℕ) → is_in gone v ≡ false →
      IsLinked k number r o i x v → IsLinked k' number' r o i x v
  unfolding in_tree_beside
  linked_beside r o i x v out h = record {
    in_tree = in_tree_beside r Inner x v out h.in_tree;
    linked = link Inner h.in_tree.name x v out h.in_tree.at ∙ h.linked;
  }

  pub branches_beside : (r : ℕ) (bs : Branches) → AreBranches k number r bs →
      Outside (branch_items bs) → AreBranches k' number' r bs
  branches_beside r leaf h out = tt
  branches_beside r (branch o i inner a b outer sub rest) h out =
      let items = branch_items sub ++ branch_items rest in
      let behind : Outside (outer ∷ items) = outside_rest inner (outer ∷ items) out in
      let later : Outside items = outside_rest outer items behind in (
        linked_beside r o i inner a
            (outside_one inner (outer ∷ items) out a h.0.in_tree.at.holds) h.0,
        in_tree_beside r Outer outer b (outside_one outer items behind b h.1.at.holds) h.1,
        mates a b h.2,
        branches_beside r sub h.3 (outside_left (branch_items sub) (branch_items rest) later),
        branches_beside r rest h.4 (outside_right (branch_items sub) (branch_items rest) later),
      )

  pub trees_beside : (ts : List Tree) → AreTrees k number ts → Outside (tree_items ts) →
      AreTrees k' number' ts
  trees_beside [] h out = tt
  trees_beside (t ∷ ts) h out =
      let items = branch_items t.branches ++ tree_items ts in
      let later : Outside items = outside_rest t.root items out in (
        record {
          free = h.0.free;
          unmatched = unmatched h.0.free h.0.unmatched;
          root = in_tree_beside h.0.free Outer t.root h.0.free
              (outside_one t.root items out h.0.free h.0.root.at.holds) h.0.root;
          branches = branches_beside h.0.free t.branches h.0.branches
              (outside_left (branch_items t.branches) (tree_items ts) later);
        },
        trees_beside ts h.1 (outside_right (branch_items t.branches) (tree_items ts) later),
      )

  pub away_beside : (x : Side) (v : ℕ) → is_in gone v ≡ false → IsAway k number x v →
      IsAway k' number' x v
  away_beside x v out h = record { name = h.name; at = at Away h.name x v out h.at }

  pub pairs_beside : (ps : List Mate) → ArePaired k number ps → Outside (mate_items ps) →
      ArePaired k' number' ps
  pairs_beside [] h out = tt
  pairs_beside (q ∷ ps) h out =
      let behind : Outside (q.two ∷ mate_items ps) =
      outside_rest q.one (q.two ∷ mate_items ps) out in (
        (
          away_beside q.one q.at_one (outside_one q.one (q.two ∷ mate_items ps) out q.at_one
              h.0.0.at.holds) h.0.0,
          away_beside q.two q.at_two (outside_one q.two (mate_items ps) behind q.at_two
              h.0.1.at.holds) h.0.1,
          mates q.at_one q.at_two h.0.2,
        ),
        pairs_beside ps h.1 (outside_rest q.two (mate_items ps) behind),
      )
