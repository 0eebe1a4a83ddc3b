-- A forest that grows shows the grown search.
use Rattle.std.proofs.Common.{◌≡◌, ℕ, ◌<◌, ◌||◌, Bool, true, false, cond, List, [], ◌∷◌, ◌++◌, refl, sym, ap, ◌∙◌, arith, subst, eq-eqb, ⊎_elim}
use Rattle.std.specs.Prelude.{ℤ}
use Rattle.std.proofs.lemmas.Int.{ints}
use Rattle.std.proofs.lemmas.Bool.{false≢true, ne_eqb}
use Rattle.graph_model.specs.Graph.{is_in}
use Rattle.matching_model.specs.Matchings.{AreApart}
use Rattle.matching_model.specs.Blossoms.{Side, has, members, side_members}
use Rattle.matching_model.specs.Forests.{Branches, leaf, branch, Mate, Tree, Search, Measure, of, tree_sum, mate_sum, search_sum, summed, Mark, Outer, Inner, Away, IsOuter, root, below, beside, marked_trees, marked_mates}
use Rattle.matching_model.proofs.IntSums.{int_sum_by-cons, int_sum_by-append}
use Rattle.matching_model.proofs.Crossed.{apart_append}
use Rattle.matching_model.proofs.Exposed.{is_in-append}
use Rattle.matching_model.proofs.Events.{IsAt as Stands, at_split}
use Rattle.matching_model.proofs.FreeSteps.{no_away_trees, no_outer_mates}
use Rattle.matching_model.proofs.Slacks.{tree_items, tree_items_sum, mate_items, mate_items_sum, sums_apart}
use Rattle.matching_laws.specs.Constructions.{hang}
use Rattle.matching_laws.specs.StepLaws.{forest, with_branches}
use Rattle.matching_laws.proofs.Closing.{members_append}
use Rattle.matching_laws.proofs.Hanging.{hang_sum}
use Rattle.matching_ends.specs.Mated.{AreMates}
use Rattle.shown_search.specs.Shown.{Kept, IsBase, itself, of_ring, IsAt, IsInTree, IsLinked, AreBranches, IsTree, AreTrees, IsAway, ArePaired, Shows}
use Rattle.shown_search.specs.Growing.{put, mate_set, grown, IsGrown, GrownLaw}
use Rattle.shown_search.proofs.Entries.{Found, found}
use Rattle.shown_search.proofs.Fronts.{no_dist, TreeWith, tree_with, PairWith, pair_with, front_sum, trees_front, IsPaired, pairs_front}

-- ---- entries that are written
pub put_there : {X : Type 0} (f : ℕ → X) (s : ℕ) (x : X) → put f s x s ≡ x
put_there f s x = ap (λ b. cond b x (f s)) (eq-eqb s s refl)

pub put_else : {X : Type 0} (f : ℕ → X) (s : ℕ) (x : X) (t : ℕ) → (s ≡ t → ⊥) → put f s x t ≡ f t
put_else f s x t ne = ap (λ b. cond b x (f t)) (ne_eqb s t ne)

-- ---- the vertex that isn't mated inside a set
pub base_is : (n : ℕ) (children : ℕ → List ℕ) (joint : ℕ → ℕ × ℕ) (base mate : ℕ → ℕ) (s v : ℕ) →
    IsBase n children joint base mate s v → base s ≡ v
base_is n children joint base mate s v (itself low e) = e
base_is n children joint base mate s v (of_ring before c behind from e b inside twos) = b

pub base_low : (n : ℕ) (children : ℕ → List ℕ) (joint : ℕ → ℕ × ℕ) (base mate : ℕ → ℕ) (s v : ℕ) →
    IsBase n children joint base mate s v → v < n
base_low n children joint base mate s v (itself low e) = low
base_low n children joint base mate s v (of_ring before c behind from e b inside twos) =
    base_low n children joint base mate c v inside

abbrev IsAwayMark : Mark → Type 0
IsAwayMark Outer = ⊥
IsAwayMark Inner = ⊥
IsAwayMark Away = Unit {0}

module _ (k : Kept) (number : ℕ → ℤ) (u v : ℕ) (p : Mate) (one : IsAway k number p.one p.at_one)
    (two : IsAway k number p.two p.at_two) (mated : AreMates k.mate p.at_one p.at_two)
    (in_one : has p.one v) (elsewhere : is_in (members p.one.body) p.at_two ≡ false) where
  abbrev k' : Kept
  k' = grown k u v

  first_name : k.top v ≡ one.name
  first_name = one.at.tops v in_one

  second_name : mate_set k v ≡ two.name
  second_name =
      ap (λ s. k.top (k.mate (k.base s))) first_name
      ∙ ap (λ b. k.top (k.mate b))
      (base_is k.vertices k.children k.joint k.base k.mate one.name p.at_one one.at.based)
      ∙ ap k.top mated.0
      ∙ two.at.tops p.at_two two.at.holds

  names_differ : mate_set k v ≡ k.top v → ⊥
  names_differ e =
      let low = base_low k.vertices k.children k.joint k.base k.mate two.name p.at_two two.at.based
      in
      let back = one.at.only p.at_two low (two.at.tops p.at_two two.at.holds ∙ sym second_name ∙ e
      ∙ first_name) in
      false≢true (sym elsewhere ∙ back)

  -- names of other marks are not written
  not_first : (c : ℕ) (m : Mark) → k.mark c ≡ m → (IsAwayMark m → ⊥) → k.top v ≡ c → ⊥
  not_first c m e away same =
      away (subst IsAwayMark (sym (one.at.marked) ∙ ap k.mark (sym first_name ∙ same) ∙ e) tt)

  not_second : (c : ℕ) (m : Mark) → k.mark c ≡ m → (IsAwayMark m → ⊥) → mate_set k v ≡ c → ⊥
  not_second c m e away same =
      away (subst IsAwayMark (sym (two.at.marked) ∙ ap k.mark (sym second_name ∙ same) ∙ e) tt)

  -- ---- what isn't written is shown as before
  still_marked : (c : ℕ) → (k.top v ≡ c → ⊥) → (mate_set k v ≡ c → ⊥) → k'.mark c ≡ k.mark c
  still_marked c a b = put_else (put k.mark (k.top v) Inner) (mate_set k v) Outer c b
      ∙ put_else k.mark (k.top v) Inner c a

  still_labelled : (c : ℕ) → (k.top v ≡ c → ⊥) → (mate_set k v ≡ c → ⊥) → k'.label c ≡ k.label c
  still_labelled c a b = put_else (put k.label (k.top v) (k.label (k.top u))) (mate_set k v)
      (k.label (k.top u)) c b ∙ put_else k.label (k.top v) (k.label (k.top u)) c a

  at_still : (m : Mark) (c : ℕ) (x : Side) (w : ℕ) → (k.top v ≡ c → ⊥) → (mate_set k v ≡ c → ⊥) →
      IsAt k number m c x w → IsAt k' number m c x w
  at_still m c x w a b h = record {
    set = h.set;
    numbered = h.numbered;
    tops = h.tops;
    only = h.only;
    based = h.based;
    holds = h.holds;
    marked = still_marked c a b ∙ h.marked;
  }

  in_tree_still : (r : ℕ) (m : Mark) (x : Side) (w : ℕ) → (IsAwayMark m → ⊥) →
      IsInTree k number r m x w → IsInTree k' number r m x w
  in_tree_still r m x w away h =
      let a = not_first h.name m h.at.marked away in
      let b = not_second h.name m h.at.marked away in
      record {
        name = h.name;
        at = at_still m h.name x w a b h.at;
        labelled = still_labelled h.name a b ∙ h.labelled;
      }

  linked_still : (r o i : ℕ) (x : Side) (w : ℕ) → IsLinked k number r o i x w →
      IsLinked k' number r o i x w
  unfolding in_tree_still
  linked_still r o i x w h = record {
    in_tree = in_tree_still r Inner x w (λ z. z) h.in_tree;
    linked = put_else k.link (k.top v) (v, u) h.in_tree.name
        (not_first h.in_tree.name Inner h.in_tree.at.marked (λ z. z)) ∙ h.linked;
  }

  branches_still : (r : ℕ) (bs : Branches) → AreBranches k number r bs → AreBranches k' number r bs
  branches_still r leaf h = tt
  branches_still r (branch o i inner a b outer sub rest) h = (
    linked_still r o i inner a h.0,
    in_tree_still r Outer outer b (λ z. z) h.1,
    h.2,
    branches_still r sub h.3,
    branches_still r rest h.4,
  )

  tree_still : (t : Tree) → IsTree k number t → IsTree k' number t
  tree_still t h = record {
    free = h.free;
    unmatched = h.unmatched;
    root = in_tree_still h.free Outer t.root h.free (λ z. z) h.root;
    branches = branches_still h.free t.branches h.branches;
  }

  trees_still : (ts : List Tree) → AreTrees k number ts → AreTrees k' number ts
  trees_still [] h = tt
  trees_still (t ∷ ts) h = (tree_still t h.0, trees_still ts h.1)

  -- sets that share no vertex with the pair
  away_still : (x : Side) (w : ℕ) → ((z : ℕ) → has x z → is_in (members p.one.body) z ≡ false) →
      ((z : ℕ) → has x z → is_in (members p.two.body) z ≡ false) → IsAway k number x w →
      IsAway k' number x w
  away_still x w out_one out_two h =
      let low = base_low k.vertices k.children k.joint k.base k.mate h.name w h.at.based in
      let top = h.at.tops w h.at.holds in
      record {
        name = h.name;
        at = at_still Away h.name x w
            (λ e. false≢true (sym (out_one w h.at.holds) ∙ one.at.only w low (top ∙ sym e
            ∙ first_name)))
            (λ e. false≢true (sym (out_two w h.at.holds) ∙ two.at.only w low (top ∙ sym e
            ∙ second_name))) h.at;
      }

  abbrev Outside : List ℕ → Type 0
  Outside zs = (z : ℕ) → is_in zs z ≡ true → (is_in (members p.one.body) z ≡ false) ×
      (is_in (members p.two.body) z ≡ false)

  pairs_still : (qs : List Mate) → Outside (side_members (mate_items qs)) → ArePaired k number qs →
      ArePaired k' number qs
  pairs_still [] out h = tt
  pairs_still (q ∷ qs) out h = (
    (
      away_still q.one q.at_one (λ z m. (out z (in_first z m)).0)
          (λ z m. (out z (in_first z m)).1) h.0.0,
      away_still q.two q.at_two
          (λ z m. (out z (in_second z m)).0) (λ z m. (out z (in_second z m)).1) h.0.1,
      h.0.2,
    ),
    pairs_still qs (λ z m. out z (in_rest z m)) h.1,
  )
    where
      or_true : (b : Bool) → b || true ≡ true
      or_true true = refl
      or_true false = refl

      later : List ℕ
      later = side_members (mate_items qs)

      in_first : (z : ℕ) → has q.one z → is_in (side_members (mate_items (q ∷ qs))) z ≡ true
      in_first z m = is_in-append (members q.one.body) (members q.two.body ++ later) z
          ∙ ap (λ b. b || is_in (members q.two.body ++ later) z) m

      behind_first : (z : ℕ) → is_in (members q.two.body ++ later) z ≡ true →
          is_in (side_members (mate_items (q ∷ qs))) z ≡ true
      behind_first z m = is_in-append (members q.one.body) (members q.two.body ++ later) z
          ∙ ap (λ b. is_in (members q.one.body) z || b) m ∙ or_true (is_in (members q.one.body) z)

      in_second : (z : ℕ) → has q.two z → is_in (side_members (mate_items (q ∷ qs))) z ≡ true
      in_second z m = behind_first z (is_in-append (members q.two.body) later z
          ∙ ap (λ b. b || is_in later z) m)

      in_rest : (z : ℕ) → is_in later z ≡ true → is_in (side_members (mate_items (q ∷ qs))) z ≡ true
      in_rest z m = behind_first z (is_in-append (members q.two.body) later z
          ∙ ap (λ b. is_in (members q.two.body) z || b) m ∙ or_true (is_in (members q.two.body) z))

  -- ---- the pair in its tree
  one_hangs : (r : ℕ) → k.label (k.top u) ≡ r → IsLinked k' number r u v p.one p.at_one
  one_hangs r label = record {
    in_tree = record {
      name = one.name;
      at = record {
        set = one.at.set;
        numbered = one.at.numbered;
        tops = one.at.tops;
        only = one.at.only;
        based = one.at.based;
        holds = one.at.holds;
        marked = subst (λ s. k'.mark s ≡ Inner) first_name
            (put_else (put k.mark (k.top v) Inner) (mate_set k v) Outer (k.top v) names_differ
            ∙ put_there k.mark (k.top v) Inner);
      };
      labelled = subst (λ s. k'.label s ≡ r) first_name
          (put_else (put k.label (k.top v) (k.label (k.top u))) (mate_set k v) (k.label (k.top u))
          (k.top v) names_differ ∙ put_there k.label (k.top v) (k.label (k.top u)) ∙ label);
    };
    linked = subst (λ s. k'.link s ≡ (v, u)) first_name (put_there k.link (k.top v) (v, u));
  }

  two_hangs : (r : ℕ) → k.label (k.top u) ≡ r → IsInTree k' number r Outer p.two p.at_two
  two_hangs r label = record {
    name = two.name;
    at = record {
      set = two.at.set;
      numbered = two.at.numbered;
      tops = two.at.tops;
      only = two.at.only;
      based = two.at.based;
      holds = two.at.holds;
      marked = subst (λ s. k'.mark s ≡ Outer) second_name
          (put_there (put k.mark (k.top v) Inner) (mate_set k v) Outer);
    };
    labelled = subst (λ s. k'.label s ≡ r) second_name
        (put_there (put k.label (k.top v) (k.label (k.top u))) (mate_set k v) (k.label (k.top u))
        ∙ label);
  }

  hang_shown : (r : ℕ) → k.label (k.top u) ≡ r →
      (top : Side) (bs : Branches) (x : Side) (q : IsOuter top bs x) → AreBranches k number r bs →
      AreBranches k' number r (hang top bs x q u v p)
  hang_shown r label top bs x root h = (
    one_hangs r label,
    two_hangs r label,
    mated,
    tt,
    branches_still r bs h,
  )
  hang_shown r label top (branch o i inner a b outer sub rest) x (below q) h = (
    linked_still r o i inner a h.0,
    in_tree_still r Outer outer b (λ z. z) h.1,
    h.2,
    hang_shown r label outer sub x q h.3,
    branches_still r rest h.4,
  )
  hang_shown r label top (branch o i inner a b outer sub rest) x (beside q) h = (
    linked_still r o i inner a h.0,
    in_tree_still r Outer outer b (λ z. z) h.1,
    h.2,
    branches_still r sub h.3,
    hang_shown r label top rest x q h.4,
  )

-- an outer set of a shown tree
pub outer_shown : (k : Kept) (number : ℕ → ℤ) (r : ℕ) (top : Side) (w : ℕ) (bs : Branches)
    (x : Side) → IsInTree k number r Outer top w → AreBranches k number r bs → IsOuter top bs x →
    (z : ℕ) × IsInTree k number r Outer x z
outer_shown k number r top w bs x h b root = (w, h)
outer_shown k number r top w (branch o i inner c d outer sub rest) x h b (below q) =
    outer_shown k number r outer d sub x b.1 b.3 q
outer_shown k number r top w (branch o i inner c d outer sub rest) x h b (beside q) =
    outer_shown k number r top w rest x h b.4 q

pub grown_law : GrownLaw
grown_law k number s u v h low_u low_v outer away =
    with_sets (found k number s h u low_u) (found k number s h v low_v)
  where
    make : (x y : Side) → has x u → has y v → TreeWith s.trees x → PairWith s.mates y →
        (s' : Search) × IsGrown s s' u v × Shows (grown k u v) number s'
    make x y in_x in_y t m = (
      new,
      record {
        tree = t.tree;
        trees = t.trees;
        tree_first = t.first;
        pair = m.pair;
        mates = m.mates;
        mate_first = m.first;
        outer = x;
        place = t.place;
        in_outer = in_x;
        in_pair = in_one;
        after = refl;
      },
      record {
        trees = (
          record {
            free = tree.free;
            unmatched = tree.unmatched;
            root = in_tree_still k number u v m.pair one two mated in_one elsewhere tree.free Outer
                t.tree.root tree.free (λ z. z) tree.root;
            branches = hang_shown k number u v m.pair one two mated in_one elsewhere tree.free label
                t.tree.root t.tree.branches x t.place tree.branches;
          },
          trees_still k number u v m.pair one two mated in_one elsewhere t.trees trees.1,
        );
        mates = pairs_still k number u v m.pair one two mated in_one elsewhere m.mates out pairs.1;
        covers = λ f. new_sum (summed f) ∙ h.covers f;
      },
    )
      where
        new_tree : Tree
        new_tree = with_branches t.tree (hang t.tree.root t.tree.branches x t.place u v m.pair)

        new : Search
        new = forest (new_tree ∷ t.trees) m.mates

        front : Search
        front = forest (t.tree ∷ t.trees) (m.pair ∷ m.mates)

        trees : IsTree k number t.tree × AreTrees k number t.trees
        trees = trees_front k number s.trees t.tree t.trees t.first h.trees

        tree : IsTree k number t.tree
        tree = trees.0

        pairs : IsPaired k number m.pair × ArePaired k number m.mates
        pairs = pairs_front k number s.mates m.pair m.mates m.first h.mates

        one : IsAway k number m.pair.one m.pair.at_one
        one = pairs.0.0

        two : IsAway k number m.pair.two m.pair.at_two
        two = pairs.0.1

        mated : AreMates k.mate m.pair.at_one m.pair.at_two
        mated = pairs.0.2

        in_one : has m.pair.one v
        in_one = subst (λ z. has z v) (sym m.is_one) in_y

        -- all outermost sets, end to end
        items : List Side
        items = tree_items (t.tree ∷ t.trees) ++ mate_items (m.pair ∷ m.mates)

        apart : AreApart (side_members (mate_items (m.pair ∷ m.mates)))
        apart = (apart_append (side_members (tree_items (t.tree ∷ t.trees)))
            (side_members (mate_items (m.pair ∷ m.mates)))
            (subst AreApart (members_append (tree_items (t.tree ∷ t.trees))
            (mate_items (m.pair ∷ m.mates)))
            (sums_apart no_dist k.vertices items (λ f.
            let e = front_sum (summed f) s t.tree t.trees m.pair m.mates t.first m.first in
            let c = h.covers f in
            omega (
              arith,
              ints,
              e,
              c,
              int_sum_by-append (of (summed f))
                  (tree_items (t.tree ∷ t.trees)) (mate_items (m.pair ∷ m.mates)),
              tree_items_sum (summed f) (t.tree ∷ t.trees),
              mate_items_sum (summed f) (m.pair ∷ m.mates),
            ))))).1

        parts : AreApart (members m.pair.one.body) × AreApart
            (members m.pair.two.body ++ side_members (mate_items m.mates)) × ((z : ℕ) →
            has m.pair.one z → is_in (members m.pair.two.body ++ side_members
            (mate_items m.mates)) z ≡ false)
        parts = apart_append (members m.pair.one.body)
            (members m.pair.two.body ++ side_members (mate_items m.mates)) apart

        parts_two : AreApart (members m.pair.two.body) × AreApart
            (side_members (mate_items m.mates)) × ((z : ℕ) → has m.pair.two z →
            is_in (side_members (mate_items m.mates)) z ≡ false)
        parts_two = apart_append (members m.pair.two.body)
            (side_members (mate_items m.mates)) parts.1

        out_of : (b : Bool) (zs : List ℕ) (x : Side) (z : ℕ) → is_in (members x.body) z ≡ b →
            (has x z → is_in zs z ≡ false) → is_in zs z ≡ true → is_in (members x.body) z ≡ false
        out_of false zs x z e out m = e
        out_of true zs x z e out m = absurd (false≢true (sym (out e) ∙ m))

        or_true : (b : Bool) → b || true ≡ true
        or_true true = refl
        or_true false = refl

        elsewhere : is_in (members m.pair.one.body) m.pair.at_two ≡ false
        elsewhere = out_of (is_in (members m.pair.one.body) m.pair.at_two)
            (members m.pair.two.body ++ side_members
            (mate_items m.mates)) m.pair.one m.pair.at_two refl (λ i. parts.2 m.pair.at_two i)
            (is_in-append (members m.pair.two.body) (side_members
            (mate_items m.mates)) m.pair.at_two
            ∙ ap (λ b. b || is_in
            (side_members (mate_items m.mates)) m.pair.at_two) two.at.holds)

        out : (z : ℕ) → is_in (side_members (mate_items m.mates)) z ≡ true →
            (is_in (members m.pair.one.body) z ≡ false) ×
            (is_in (members m.pair.two.body) z ≡ false)
        out z i = (
          out_of (is_in (members m.pair.one.body) z) (members m.pair.two.body ++ side_members
              (mate_items m.mates)) m.pair.one z refl (λ j. parts.2 z j)
              (is_in-append (members m.pair.two.body) (side_members (mate_items m.mates)) z
              ∙ ap (λ b. is_in (members m.pair.two.body) z || b) i
              ∙ or_true (is_in (members m.pair.two.body) z)),
          out_of (is_in (members m.pair.two.body) z) (side_members
              (mate_items m.mates)) m.pair.two z refl (λ j. parts_two.2 z j) i,
        )

        label : k.label (k.top u) ≡ tree.free
        label = let o = outer_shown k number tree.free t.tree.root tree.free t.tree.branches x
            tree.root tree.branches t.place in ap k.label (o.1.at.tops u in_x) ∙ o.1.labelled

        new_sum : (m' : Measure) → search_sum m' new ≡ search_sum m' s
        new_sum m' =
            let a = hang_sum m' t.tree.root t.tree.branches x t.place u v m.pair in
            let b = front_sum m' s t.tree t.trees m.pair m.mates t.first m.first in
            omega (
              arith,
              ints,
              a,
              b,
              int_sum_by-cons (tree_sum m') t.tree t.trees,
              int_sum_by-cons (tree_sum m') new_tree t.trees,
              int_sum_by-cons (mate_sum m') m.pair m.mates,
            )

    with_sets : Found k number s u → Found k number s v →
        (s' : Search) × IsGrown s s' u v × Shows (grown k u v) number s'
    with_sets a b =
        let at_u : Stands (Outer, a.side) (marked_trees s.trees ++ marked_mates s.mates) =
        subst (λ m. Stands (
          m,
          a.side,
        ) (marked_trees s.trees ++ marked_mates s.mates)) outer a.stands in
        let at_v : Stands (Away, b.side) (marked_trees s.trees ++ marked_mates s.mates) =
        subst (λ m. Stands (
          m,
          b.side,
        ) (marked_trees s.trees ++ marked_mates s.mates)) away b.stands in
        make a.side b.side a.holds b.holds
        (tree_with s.trees a.side (⊎_elim (λ l. l) (λ r. absurd (no_outer_mates s.mates a.side r))
        (at_split (Outer, a.side) (marked_trees s.trees) (marked_mates s.mates) at_u)))
        (pair_with s.mates b.side (⊎_elim (λ l. absurd (no_away_trees s.trees b.side l)) (λ r. r)
        (at_split (Away, b.side) (marked_trees s.trees) (marked_mates s.mates) at_v)))
