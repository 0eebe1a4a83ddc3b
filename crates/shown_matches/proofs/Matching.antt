-- What is kept shows the search in which two trees have become matched sets.
use Rattle.std.proofs.Common.{◌≡◌, ℕ, ◌<◌, ◌||◌, ◌==◌, Bool, true, false, cond, List, [], ◌∷◌, ◌++◌, map, refl, sym, ap, ◌∙◌, arith, subst, eq-eqb, ⊎_elim, ◌⊎◌, inl, inr}
use Rattle.std.specs.Prelude.{ℤ, ◌+ℤ◌}
use Rattle.std.proofs.lemmas.Int.{ints}
use Rattle.std.proofs.lemmas.Bool.{false≢true, false_from_ne_true, ne_eqb}
use Rattle.graph_model.specs.Graph.{is_in}
use Rattle.graph_model.proofs.Members.{is_in_cases}
use Rattle.matching_model.specs.Sums.{int_sum_by}
use Rattle.matching_model.specs.Matchings.{AreApart}
use Rattle.matching_model.specs.Blossoms.{Side, has, side_members}
use Rattle.matching_model.specs.Forests.{Branches, leaf, branch, Mate, Tree, Measure, of, branch_sum, tree_sum, mate_sum, search_sum, summed, Mark, Outer, Inner, Away, IsOuter, root, below, beside}
use Rattle.matching_model.proofs.IntSums.{int_sum_by-cons, int_sum_by-append}
use Rattle.matching_model.proofs.Crossed.{apart_append}
use Rattle.matching_model.proofs.Slacks.{branch_items, branch_items_sum, tree_items, tree_items_sum, mate_items, mate_items_sum, sums_apart}
use Rattle.matching_laws.specs.Constructions.{matched, part_off, turn_about}
use Rattle.matching_laws.specs.StepLaws.{forest}
use Rattle.matching_laws.proofs.Closing.{members_append}
use Rattle.matching_laws.proofs.Turning.{turn_about_sum}
use Rattle.matching_ends.specs.Mated.{AreMates}
use Rattle.shown_search.specs.Shown.{Kept, IsBase, IsAt, IsInTree, IsLinked, AreBranches, IsTree, AreTrees, IsAway, ArePaired, Shows}
use Rattle.shown_matches.specs.Augmenting.{AreExposed, AreMatched, AreOn, AugmentedLaw, StaysElse, augmented, both_ways, way_vertices}
use Rattle.shown_search.proofs.Beside.{in_first, in_later, in_left, in_right, or_true, paired_append}
use Rattle.shown_search.proofs.Fronts.{no_dist, tree_first_sum, trees_front}
use Rattle.shown_search.proofs.Growth.{base_low, outer_shown}

-- ---- the sets on a way and those beside it
abbrev pub way_sides : (top : Side) (bs : Branches) (x : Side) → IsOuter top bs x → List Side
way_sides top bs x root = x ∷ []
way_sides top (branch o i inner a b outer sub rest) x (below q) =
    top ∷ inner ∷ way_sides outer sub x q
way_sides top (branch o i inner a b outer sub rest) x (beside q) = way_sides top rest x q

abbrev pub off_items : (top : Side) (bs : Branches) (x : Side) → IsOuter top bs x → List Side
off_items top bs x root = branch_items bs
off_items top (branch o i inner a b outer sub rest) x (below q) =
    off_items outer sub x q ++ branch_items rest
off_items top (branch o i inner a b outer sub rest) x (beside q) =
    inner ∷ outer ∷ (branch_items sub ++ off_items top rest x q)

pub way_sum : (m : Measure) (top : Side) (bs : Branches) (x : Side) (q : IsOuter top bs x) →
    int_sum_by (of m) (way_sides top bs x q) +ℤ int_sum_by (of m) (off_items top bs x q)
    ≡ of m top +ℤ branch_sum m bs
way_sum m top bs x root = omega (arith, ints, int_sum_by-cons (of m) x [], branch_items_sum m bs)
way_sum m top (branch o i inner a b outer sub rest) x (below q) =
    let e = way_sum m outer sub x q in
    omega (
      arith,
      ints,
      e,
      int_sum_by-cons (of m) top (inner ∷ way_sides outer sub x q),
      int_sum_by-cons (of m) inner (way_sides outer sub x q),
      int_sum_by-append (of m) (off_items outer sub x q) (branch_items rest),
      branch_items_sum m rest,
    )
way_sum m top (branch o i inner a b outer sub rest) x (beside q) =
    let e = way_sum m top rest x q in
    omega (
      arith,
      ints,
      e,
      int_sum_by-cons (of m) inner
          (outer ∷ (branch_items sub ++ off_items top rest x q)),
      int_sum_by-cons (of m) outer (branch_items sub ++ off_items top rest x q),
      int_sum_by-append (of m) (branch_items sub) (off_items top rest x q),
      branch_items_sum m sub,
    )

-- the root is on each way
root_on : (top : Side) (bs : Branches) (x : Side) (q : IsOuter top bs x) (v : ℕ) → has top v →
    is_in (side_members (way_sides top bs x q)) v ≡ true
root_on top bs x root v m = in_first x [] v m
root_on top (branch o i inner a b outer sub rest) x (below q) v m =
    in_first top (inner ∷ way_sides outer sub x q) v m
root_on top (branch o i inner a b outer sub rest) x (beside q) v m = root_on top rest x q v m

-- ---- vertices and the sets that have them
-- each vertex is in a shown set, all of whose vertices are in the list
record IsOf (k : Kept) (number : ℕ → ℤ) (sides : List Side) (v : ℕ) : Type 0 where
  side : Side
  mark : Mark
  name : ℕ
  vertex : ℕ
  at : IsAt k number mark name side vertex
  holds : has side v
  within : (z : ℕ) → has side z → is_in (side_members sides) z ≡ true

module _ (k : Kept) (number : ℕ → ℤ) where
  abbrev AreOf : List Side → List ℕ → Type 0
  AreOf sides [] = Unit {0}
  AreOf sides (v ∷ vs) = IsOf k number sides v × AreOf sides vs

  of_append : (sides : List Side) (vs ws : List ℕ) → AreOf sides vs → AreOf sides ws →
      AreOf sides (vs ++ ws)
  of_append sides [] ws a b = b
  of_append sides (v ∷ vs) ws a b = (a.0, of_append sides vs ws a.1 b)

  of_wider : (xs ys : List Side) → ((z : ℕ) → is_in (side_members xs) z ≡ true →
      is_in (side_members ys) z ≡ true) → (vs : List ℕ) → AreOf xs vs → AreOf ys vs
  of_wider xs ys wider [] h = tt
  of_wider xs ys wider (v ∷ vs) h = (
    record {
      side = h.0.side;
      mark = h.0.mark;
      name = h.0.name;
      vertex = h.0.vertex;
      at = h.0.at;
      holds = h.0.holds;
      within = λ z m. wider z (h.0.within z m);
    },
    of_wider xs ys wider vs h.1,
  )

  -- a vertex whose set has one of these names is in the sides
  named_of : (sides : List Side) (vs : List ℕ) → AreOf sides vs → (v : ℕ) → v < k.vertices →
      is_in (map k.top vs) (k.top v) ≡ true → is_in (side_members sides) v ≡ true
  named_of sides [] h v low m = absurd (false≢true m)
  named_of sides (z ∷ vs) h v low m =
      ⊎_elim (λ e. h.0.within v (h.0.at.only v low (sym e ∙ h.0.at.tops z h.0.holds)))
      (λ r. named_of sides vs h.1 v low r) (is_in_cases (k.top z) (k.top v) (map k.top vs) m)

  way_of : (r : ℕ) (top : Side) (z : ℕ) (bs : Branches) (x : Side) (q : IsOuter top bs x) (u : ℕ) →
      IsInTree k number r Outer top z → AreBranches k number r bs → AreOn top bs x q u →
      AreOf (way_sides top bs x q) (way_vertices top bs x q u)
  way_of r top z bs x root u t h on = (
    record {
      side = x;
      mark = Outer;
      name = t.name;
      vertex = z;
      at = t.at;
      holds = on;
      within = λ v m. in_first x [] v m;
    },
    tt,
  )
  way_of r top z (branch o i inner a b outer sub rest) x (below q) u t h on = (
    record {
      side = top;
      mark = Outer;
      name = t.name;
      vertex = z;
      at = t.at;
      holds = on.0;
      within = λ v m. in_first top (inner ∷ way_sides outer sub x q) v m;
    },
    (
      record {
        side = inner;
        mark = Inner;
        name = h.0.in_tree.name;
        vertex = a;
        at = h.0.in_tree.at;
        holds = on.1;
        within = λ v m. in_later top
            (inner ∷ way_sides outer sub x q) v (in_first inner (way_sides outer sub x q) v m);
      },
      of_wider (way_sides outer sub x q) (top ∷ inner ∷ way_sides outer sub x q)
          (λ v m. in_later top (inner ∷ way_sides outer sub x q) v
          (in_later inner (way_sides outer sub x q) v m)) (way_vertices outer sub x q u)
          (way_of r outer b sub x q u h.1 h.3 on.2),
    ),
  )
  way_of r top z (branch o i inner a b outer sub rest) x (beside q) u t h on =
      way_of r top z rest x q u t h.4 on

  module _ (base mate : ℕ → ℕ) (ways : List ℕ) (one two : ℕ) (stays : StaysElse k base mate ways)
      (sides : List Side) (are : AreOf sides ways) where
    abbrev k' : Kept
    k' = augmented k base mate one two

    -- a set whose vertices are not on the ways
    abbrev Beside : List Side → Type 0
    Beside xs = (v : ℕ) → is_in (side_members xs) v ≡ true → is_in (side_members sides) v ≡ false

    far : (m : Mark) (s : ℕ) (x : Side) (v : ℕ) → IsAt k number m s x v →
        is_in (side_members sides) v ≡ false → is_in (map k.top ways) (k.top v) ≡ false
    far m s x v h out =
        false_from_ne_true (is_in (map k.top ways) (k.top v))
        (λ i. false≢true (sym out ∙ named_of sides ways are v
        (base_low k.vertices k.children k.joint k.base k.mate s v h.based) i))

    still_at : (m m' : Mark) (s : ℕ) (x : Side) (v : ℕ) → IsAt k number m s x v →
        is_in (side_members sides) v ≡ false → k'.mark s ≡ m' → IsAt k' number m' s x v
    still_at m m' s x v h out mark = record {
      set = h.set;
      numbered = h.numbered;
      tops = h.tops;
      only = h.only;
      based = stays.bases s v (subst (λ c. is_in (map k.top ways) c ≡ false) (h.tops v h.holds)
          (far m s x v h out)) h.based;
      holds = h.holds;
      marked = mark;
    }

    -- the marks by labels
    gone : (s : ℕ) → ((k.label s ≡ one) ⊎ (k.label s ≡ two)) → k'.mark s ≡ Away
    gone s (inl e) = ap (λ b. cond (b || (k.label s == two)) Away (k.mark s))
        (eq-eqb (k.label s) one e)
    gone s (inr e) = ap (λ b. cond ((k.label s == one) || b) Away (k.mark s))
        (eq-eqb (k.label s) two e) ∙ ap (λ b. cond b Away (k.mark s)) (or_true (k.label s == one))

    kept_mark : (s : ℕ) → (k.label s ≡ one → ⊥) → (k.label s ≡ two → ⊥) → k'.mark s ≡ k.mark s
    kept_mark s a b = ap (λ t. cond (t || (k.label s == two)) Away (k.mark s))
        (ne_eqb (k.label s) one a) ∙ ap (λ t. cond t Away (k.mark s)) (ne_eqb (k.label s) two b)

    still_away : (s : ℕ) → k.mark s ≡ Away → k'.mark s ≡ Away
    still_away s e = by_test ((k.label s == one) || (k.label s == two))
      where
        by_test : (b : Bool) → cond b Away (k.mark s) ≡ Away
        by_test true = refl
        by_test false = e

    -- a set of a tree that is gone
    abbrev Goes : ℕ → Type 0
    Goes r = (r ≡ one) ⊎ (r ≡ two)

    goes_as : (r s : ℕ) → k.label s ≡ r → Goes r → (k.label s ≡ one) ⊎ (k.label s ≡ two)
    goes_as r s e (inl f) = inl (e ∙ f)
    goes_as r s e (inr f) = inr (e ∙ f)

    off_away : (r : ℕ) (m : Mark) (x : Side) (v : ℕ) → Goes r → IsInTree k number r m x v →
        is_in (side_members sides) v ≡ false → IsAway k' number x v
    off_away r m x v goes h out = record {
      name = h.name;
      at = still_at m Away h.name x v h.at out (gone h.name (goes_as r h.name h.labelled goes));
    }

    on_away : (r : ℕ) (m : Mark) (x : Side) (z v : ℕ) → Goes r → IsInTree k number r m x z →
        has x v → IsBase k.vertices k.children k.joint base mate (k.top v) v → IsAway k' number x v
    on_away r m x z v goes h holds based = record {
      name = h.name;
      at = record {
        set = h.at.set;
        numbered = h.at.numbered;
        tops = h.at.tops;
        only = h.at.only;
        based = subst (λ s. IsBase k.vertices k.children k.joint base mate s v)
            (h.at.tops v holds) based;
        holds = holds;
        marked = gone h.name (goes_as r h.name h.labelled goes);
      };
    }

    still_mates : (m m' : Mark) (s s' : ℕ) (x y : Side) (a b : ℕ) → IsAt k number m s x a →
        IsAt k number m' s' y b → is_in (side_members sides) a ≡ false →
        is_in (side_members sides) b ≡ false → AreMates k.mate a b → AreMates mate a b
    still_mates m m' s s' x y a b p q out_a out_b h =
        (stays.mates a (far m s x a p out_a) ∙ h.0, stays.mates b (far m' s' y b q out_b) ∙ h.1)

    left_beside : (xs ys : List Side) → Beside (xs ++ ys) → Beside xs
    left_beside xs ys h v m = h v (in_left xs ys v m)

    right_beside : (xs ys : List Side) → Beside (xs ++ ys) → Beside ys
    right_beside xs ys h v m = h v (in_right xs ys v m)

    part_shown : (r : ℕ) (bs : Branches) → Goes r → AreBranches k number r bs →
        Beside (branch_items bs) → ArePaired k' number (part_off bs)
    part_shown r leaf goes h out = tt
    part_shown r (branch o i inner a b outer sub rest) goes h out =
        let later : Beside (branch_items sub ++ branch_items rest) =
        λ v m. out v (in_later inner (outer ∷ (branch_items sub ++ branch_items rest)) v
        (in_later outer (branch_items sub ++ branch_items rest) v m)) in
        let out_a = out a (in_first inner
        (outer ∷ (branch_items sub ++ branch_items rest)) a h.0.in_tree.at.holds) in
        let out_b = out b (in_later inner (outer ∷ (branch_items sub ++ branch_items rest)) b
        (in_first outer (branch_items sub ++ branch_items rest) b h.1.at.holds)) in (
          (
            off_away r Inner inner a goes h.0.in_tree out_a,
            off_away r Outer outer b goes h.1 out_b,
            still_mates Inner Outer h.0.in_tree.name h.1.name inner outer a b h.0.in_tree.at h.1.at
                out_a out_b h.2,
          ),
          paired_append k' number (part_off sub) (part_off rest) (part_shown r sub goes h.3
              (λ v m. later v (in_left (branch_items sub) (branch_items rest) v m)))
              (part_shown r rest goes h.4
              (λ v m. later v (in_right (branch_items sub) (branch_items rest) v m))),
        )

    turned_shown : (r : ℕ) (top : Side) (z : ℕ) (bs : Branches) (x : Side) (q : IsOuter top bs x)
        (u : ℕ) → Goes r → IsInTree k number r Outer top z → AreBranches k number r bs →
        AreOn top bs x q u →
        AreExposed k base mate (way_vertices top bs x q u) → AreMatched mate top bs x q →
        Beside (off_items top bs x q) → IsAway k' number x u × ArePaired k' number
        (turn_about top bs x q)
    turned_shown r top z bs x root u goes t h on exposed matched out =
        (on_away r Outer x z u goes t on exposed.0, part_shown r bs goes h out)
    turned_shown r top z (branch o i inner a b outer sub rest) x
        (below q) u goes t h on exposed matched out =
        let deeper = turned_shown r outer b sub x q u goes h.1 h.3 on.2 exposed.1.1 matched.1
        (left_beside (off_items outer sub x q) (branch_items rest) out) in (
          deeper.0,
          (
            (
              on_away r Outer top z o goes t on.0 exposed.0,
              on_away r Inner inner a i goes h.0.in_tree on.1 exposed.1.0,
              matched.0,
            ),
            paired_append k' number (turn_about outer sub x q) (part_off rest) deeper.1
                (part_shown r rest goes h.4 (right_beside (off_items outer sub x q)
                (branch_items rest) out)),
          ),
        )
    turned_shown r top z (branch o i inner a b outer sub rest) x
        (beside q) u goes t h on exposed matched out =
        let later : Beside (branch_items sub ++ off_items top rest x q) =
        λ v m. out v (in_later inner (outer ∷ (branch_items sub ++ off_items top rest x q)) v
        (in_later outer (branch_items sub ++ off_items top rest x q) v m)) in
        let other = turned_shown r top z rest x q u goes t h.4 on exposed matched
        (right_beside (branch_items sub) (off_items top rest x q) later) in
        let out_a = out a (in_first inner
        (outer ∷ (branch_items sub ++ off_items top rest x q)) a h.0.in_tree.at.holds) in
        let out_b = out b (in_later inner (outer ∷ (branch_items sub ++ off_items top rest x q)) b
        (in_first outer (branch_items sub ++ off_items top rest x q) b h.1.at.holds)) in (
          other.0,
          (
            (
              off_away r Inner inner a goes h.0.in_tree out_a,
              off_away r Outer outer b goes h.1 out_b,
              still_mates Inner Outer h.0.in_tree.name h.1.name inner outer a b h.0.in_tree.at
                  h.1.at out_a out_b h.2,
            ),
            paired_append k' number (turn_about top rest x q) (part_off sub) other.1
                (part_shown r sub goes h.3 (left_beside (branch_items sub)
                (off_items top rest x q) later)),
          ),
        )

    -- ---- the other trees and pairs
    abbrev Stays : ℕ → Type 0
    Stays r = (r ≡ one → ⊥) × (r ≡ two → ⊥)

    in_tree_still : (r : ℕ) (m : Mark) (x : Side) (v : ℕ) → Stays r → IsInTree k number r m x v →
        is_in (side_members sides) v ≡ false → IsInTree k' number r m x v
    in_tree_still r m x v stays_ h out = record {
      name = h.name;
      at = still_at m m h.name x v h.at out (kept_mark h.name (λ e. stays_.0 (sym h.labelled ∙ e))
          (λ e. stays_.1 (sym h.labelled ∙ e)) ∙ h.at.marked);
      labelled = h.labelled;
    }

    linked_still : (r o i : ℕ) (x : Side) (v : ℕ) → Stays r → IsLinked k number r o i x v →
        is_in (side_members sides) v ≡ false → IsLinked k' number r o i x v
    unfolding in_tree_still
    linked_still r o i x v stays_ h out = record {
      in_tree =
          in_tree_still r Inner x v stays_ h.in_tree out;
      linked = h.linked;
    }

    branches_still : (r : ℕ) (bs : Branches) → Stays r → AreBranches k number r bs →
        Beside (branch_items bs) → AreBranches k' number r bs
    branches_still r leaf stays_ h out = tt
    branches_still r (branch o i inner a b outer sub rest) stays_ h out =
        let later : Beside (branch_items sub ++ branch_items rest) =
        λ v m. out v (in_later inner (outer ∷ (branch_items sub ++ branch_items rest)) v
        (in_later outer (branch_items sub ++ branch_items rest) v m)) in
        let out_a = out a (in_first inner
        (outer ∷ (branch_items sub ++ branch_items rest)) a h.0.in_tree.at.holds) in
        let out_b = out b (in_later inner (outer ∷ (branch_items sub ++ branch_items rest)) b
        (in_first outer (branch_items sub ++ branch_items rest) b h.1.at.holds)) in (
          linked_still r o i inner a stays_ h.0 out_a,
          in_tree_still r Outer outer b stays_ h.1 out_b,
          still_mates Inner Outer h.0.in_tree.name h.1.name inner outer a b h.0.in_tree.at h.1.at
              out_a out_b h.2,
          branches_still r sub stays_ h.3 (left_beside (branch_items sub)
              (branch_items rest) later),
          branches_still r rest stays_ h.4 (right_beside (branch_items sub)
              (branch_items rest) later),
        )

    -- where the unmatched vertices of the two trees are on the ways
    trees_still : is_in (side_members sides) one ≡ true → is_in (side_members sides) two ≡ true →
        (ts : List Tree) → AreTrees k number ts → Beside (tree_items ts) → AreTrees k' number ts
    trees_still on_one on_two [] h out = tt
    trees_still on_one on_two (t ∷ ts) h out =
        let free_out = out h.0.free
        (in_first t.root (branch_items t.branches ++ tree_items ts) h.0.free h.0.root.at.holds)
        in
        let later : Beside (branch_items t.branches ++ tree_items ts) =
        λ v m. out v (in_later t.root (branch_items t.branches ++ tree_items ts) v m) in
        let stays_ : Stays h.0.free = (
          λ e. false≢true (sym free_out ∙ ap (is_in (side_members sides)) e ∙ on_one),
          λ e. false≢true (sym free_out ∙ ap (is_in (side_members sides)) e ∙ on_two),
        ) in (
          record {
            free = h.0.free;
            unmatched = stays.mates h.0.free
                (far Outer h.0.root.name t.root h.0.free h.0.root.at free_out) ∙ h.0.unmatched;
            root = in_tree_still h.0.free Outer t.root h.0.free stays_ h.0.root free_out;
            branches = branches_still h.0.free t.branches stays_ h.0.branches
                (left_beside (branch_items t.branches) (tree_items ts) later);
          },
          trees_still on_one on_two ts h.1 (right_beside (branch_items t.branches)
              (tree_items ts) later),
        )

    away_still : (x : Side) (v : ℕ) → IsAway k number x v → is_in (side_members sides) v ≡ false →
        IsAway k' number x v
    away_still x v h out = record {
      name = h.name;
      at = still_at Away Away h.name x v h.at out (still_away h.name h.at.marked);
    }

    pairs_still : (ps : List Mate) → ArePaired k number ps → Beside (mate_items ps) →
        ArePaired k' number ps
    pairs_still [] h out = tt
    pairs_still (p ∷ ps) h out =
        let out_a = out p.at_one (in_first p.one (p.two ∷ mate_items ps) p.at_one h.0.0.at.holds) in
        let out_b = out p.at_two (in_later p.one (p.two ∷ mate_items ps) p.at_two
        (in_first p.two (mate_items ps) p.at_two h.0.1.at.holds)) in (
          (
            away_still p.one p.at_one h.0.0 out_a,
            away_still p.two p.at_two h.0.1 out_b,
            still_mates Away Away h.0.0.name h.0.1.name p.one p.two p.at_one p.at_two h.0.0.at
                h.0.1.at out_a out_b h.0.2,
          ),
          pairs_still ps h.1 (λ v m. out v (in_later p.one (p.two ∷ mate_items ps) v
              (in_later p.two (mate_items ps) v m))),
        )

pub augmented_law : AugmentedLaw
augmented_law k number s s' u w h g on_one on_two base mate exposed_one exposed_two matched_one
    matched_two mates stays =
    subst (Shows (augmented k base mate one two) number) (sym g.after) (record {
      trees = trees_still k number base mate ways one two stays sides are root_one root_two g.trees
          rest_trees (left (tree_items g.trees) (mate_items s.mates)
          (right off (tree_items g.trees ++ mate_items s.mates) out));
      mates = (
        (first.0, second.0, mates),
        paired (turn_about g.one.root g.one.branches g.first g.place)
            (turn_about g.two.root g.two.branches g.second g.other_place ++ s.mates) first.1
            (paired (turn_about g.two.root g.two.branches g.second g.other_place) s.mates second.1
            (pairs_still k number base mate ways one two stays sides are s.mates h.mates
            (right (tree_items g.trees) (mate_items s.mates)
            (right off (tree_items g.trees ++ mate_items s.mates) out)))),
      );
      covers = λ f. new_sum (summed f) ∙ h.covers f;
    })
  where
    one : ℕ
    one = k.label (k.top u)

    two : ℕ
    two = k.label (k.top w)

    ways : List ℕ
    ways = both_ways g

    way_one : List Side
    way_one = way_sides g.one.root g.one.branches g.first g.place

    way_two : List Side
    way_two = way_sides g.two.root g.two.branches g.second g.other_place

    sides : List Side
    sides = way_one ++ way_two

    off_one : List Side
    off_one = off_items g.one.root g.one.branches g.first g.place

    off_two : List Side
    off_two = off_items g.two.root g.two.branches g.second g.other_place

    off : List Side
    off = off_one ++ off_two

    shown_one : IsTree k number g.one × AreTrees k number g.others
    shown_one = trees_front k number s.trees g.one g.others g.one_first h.trees

    shown_two : IsTree k number g.two × AreTrees k number g.trees
    shown_two = trees_front k number g.others g.two g.trees g.two_first shown_one.1

    rest_trees : AreTrees k number g.trees
    rest_trees = shown_two.1

    tree_one : IsTree k number g.one
    tree_one = shown_one.0

    tree_two : IsTree k number g.two
    tree_two = shown_two.0

    are : AreOf k number sides ways
    are = of_append k number sides (way_vertices g.one.root g.one.branches g.first g.place u)
        (way_vertices g.two.root g.two.branches g.second g.other_place w)
        (of_wider k number way_one sides (λ z m. in_left way_one way_two z m)
        (way_vertices g.one.root g.one.branches g.first g.place u)
        (way_of k number tree_one.free g.one.root tree_one.free g.one.branches g.first g.place
        u tree_one.root tree_one.branches on_one))
        (of_wider k number way_two sides (λ z m. in_right way_one way_two z m)
        (way_vertices g.two.root g.two.branches g.second g.other_place w)
        (way_of k number tree_two.free g.two.root tree_two.free g.two.branches g.second
        g.other_place w tree_two.root tree_two.branches on_two))

    others : List Side
    others = off ++ (tree_items g.trees ++ mate_items s.mates)

    all_sum : (m : Measure) → int_sum_by (of m) (sides ++ others) ≡ search_sum m s
    all_sum m =
        let a = way_sum m g.one.root g.one.branches g.first g.place in
        let b = way_sum m g.two.root g.two.branches g.second g.other_place in
        let c = tree_first_sum m s.trees g.one g.others g.one_first in
        let d = tree_first_sum m g.others g.two g.trees g.two_first in
        omega (
          arith,
          ints,
          a,
          b,
          c,
          d,
          int_sum_by-append (of m) sides others,
          int_sum_by-append (of m) way_one way_two,
          int_sum_by-append (of m) off (tree_items g.trees ++ mate_items s.mates),
          int_sum_by-append (of m) off_one off_two,
          int_sum_by-append (of m) (tree_items g.trees) (mate_items s.mates),
          tree_items_sum m g.trees,
          mate_items_sum m s.mates,
          int_sum_by-cons (tree_sum m) g.one g.others,
          int_sum_by-cons (tree_sum m) g.two g.trees,
        )

    apart : AreApart (side_members sides) × AreApart (side_members others) × ((v : ℕ) →
        is_in (side_members sides) v ≡ true → is_in (side_members others) v ≡ false)
    apart = apart_append (side_members sides) (side_members others)
        (subst AreApart (members_append sides others)
        (sums_apart no_dist k.vertices (sides ++ others) (λ f. all_sum (summed f) ∙ h.covers f)))

    out : (v : ℕ) → is_in (side_members others) v ≡ true → is_in (side_members sides) v ≡ false
    out v m = false_from_ne_true (is_in (side_members sides) v)
        (λ i. false≢true (sym (apart.2 v i) ∙ m))

    left : (xs ys : List Side) → ((v : ℕ) → is_in (side_members (xs ++ ys)) v ≡ true →
        is_in (side_members sides) v ≡ false) → (v : ℕ) → is_in (side_members xs) v ≡ true →
        is_in (side_members sides) v ≡ false
    left xs ys f v m = f v (in_left xs ys v m)

    right : (xs ys : List Side) → ((v : ℕ) → is_in (side_members (xs ++ ys)) v ≡ true →
        is_in (side_members sides) v ≡ false) → (v : ℕ) → is_in (side_members ys) v ≡ true →
        is_in (side_members sides) v ≡ false
    right xs ys f v m = f v (in_right xs ys v m)

    paired : (ps qs : List Mate) → ArePaired (augmented k base mate one two) number ps →
        ArePaired (augmented k base mate one two) number qs →
        ArePaired (augmented k base mate one two) number (ps ++ qs)
    paired ps qs a b = paired_append (augmented k base mate one two) number ps qs a b

    free_one : tree_one.free ≡ one
    free_one = let x = outer_shown k number tree_one.free g.one.root tree_one.free g.one.branches
        g.first tree_one.root tree_one.branches g.place in
        sym (ap k.label (x.1.at.tops u g.in_first) ∙ x.1.labelled)

    free_two : tree_two.free ≡ two
    free_two = let x = outer_shown k number tree_two.free g.two.root tree_two.free g.two.branches
        g.second tree_two.root tree_two.branches g.other_place in
        sym (ap k.label (x.1.at.tops w g.in_second) ∙ x.1.labelled)

    root_one : is_in (side_members sides) one ≡ true
    root_one = subst (λ z. is_in (side_members sides) z ≡ true) free_one
        (in_left way_one way_two tree_one.free
        (root_on g.one.root g.one.branches g.first g.place tree_one.free tree_one.root.at.holds))

    root_two : is_in (side_members sides) two ≡ true
    root_two = subst (λ z. is_in (side_members sides) z ≡ true) free_two
        (in_right way_one way_two tree_two.free
        (root_on g.two.root g.two.branches g.second g.other_place tree_two.free
        tree_two.root.at.holds))

    out_off : (v : ℕ) → is_in (side_members off) v ≡ true → is_in (side_members sides) v ≡ false
    out_off = left off (tree_items g.trees ++ mate_items s.mates) out

    first : IsAway (augmented k base mate one two) number g.first u × ArePaired
        (augmented k base mate one two) number
        (turn_about g.one.root g.one.branches g.first g.place)
    first = turned_shown k number base mate ways one two stays sides are tree_one.free g.one.root
        tree_one.free g.one.branches g.first g.place u
        (inl free_one) tree_one.root tree_one.branches on_one exposed_one matched_one
        (left off_one off_two out_off)

    second : IsAway (augmented k base mate one two) number g.second w × ArePaired
        (augmented k base mate one two) number
        (turn_about g.two.root g.two.branches g.second g.other_place)
    second = turned_shown k number base mate ways one two stays sides are tree_two.free g.two.root
        tree_two.free g.two.branches g.second g.other_place w
        (inr free_two) tree_two.root tree_two.branches on_two exposed_two matched_two
        (right off_one off_two out_off)

    new_sum : (m : Measure) →
        search_sum m (forest g.trees (matched g.first u g.second w ∷
        (turn_about g.one.root g.one.branches g.first g.place ++
        (turn_about g.two.root g.two.branches g.second g.other_place ++ s.mates)))) ≡ search_sum m s
    new_sum m =
        let a = turn_about_sum m g.one.root g.one.branches g.first g.place in
        let b = turn_about_sum m g.two.root g.two.branches g.second g.other_place in
        let c = tree_first_sum m s.trees g.one g.others g.one_first in
        let d = tree_first_sum m g.others g.two g.trees g.two_first in
        omega (
          arith,
          ints,
          a,
          b,
          c,
          d,
          int_sum_by-cons (tree_sum m) g.one g.others,
          int_sum_by-cons (tree_sum m) g.two g.trees,
          int_sum_by-cons (mate_sum m) (matched g.first u g.second w)
              (turn_about g.one.root g.one.branches g.first g.place ++
              (turn_about g.two.root g.two.branches g.second g.other_place ++ s.mates)),
          int_sum_by-append (mate_sum m) (turn_about g.one.root g.one.branches g.first g.place)
              (turn_about g.two.root g.two.branches g.second g.other_place ++ s.mates),
          int_sum_by-append (mate_sum m)
              (turn_about g.two.root g.two.branches g.second g.other_place) s.mates,
        )
