-- What is kept shows the search in which an inner set has come apart.
use Rattle.std.proofs.Common.{◌≡◌, ℕ, ◌≤◌, ◌<◌, ◌%◌, ◌==◌, Bool, true, false, cond, List, [], ◌∷◌, ◌++◌, length, refl, sym, ap, ◌∙◌, arith, subst, ⊎_elim, ◌⊎◌, inl, inr, eqb-true, eq-eqb, length-append}
use Rattle.std.specs.Prelude.{ℤ, pos, ◌+ℤ◌}
use Rattle.std.proofs.lemmas.Int.{ints}
use Rattle.std.proofs.lemmas.Bool.{false≢true, true≢false, false_from_ne_true}
use Rattle.graph_model.specs.Graph.{is_in}
use Rattle.matching_model.specs.Sums.{int_sum_by}
use Rattle.matching_model.specs.Matchings.{AreApart}
use Rattle.matching_model.specs.Blossoms.{Blossom, Side, has, members, ring_of, side_members}
use Rattle.matching_model.specs.Forests.{Branches, leaf, branch, Mate, Tree, Search, Measure, of, branch_sum, tree_sum, mate_sum, search_sum, summed, Mark, Outer, Inner, Away, IsInner, here, under, after, marked_branches, marked_trees, marked_mates}
use Rattle.matching_model.proofs.IntSums.{int_sum_by-cons, int_sum_by-append}
use Rattle.matching_model.proofs.Crossed.{apart_append}
use Rattle.matching_model.proofs.Events.{Entry, IsAt as Stands, at_split}
use Rattle.matching_model.proofs.FreeSteps.{inner_at, no_inner_mates}
use Rattle.matching_model.proofs.Rings.{summed_shrunk}
use Rattle.matching_model.proofs.Slacks.{branch_items, branch_items_sum, members_ring, tree_items, tree_items_sum, mate_items, mate_items_sum, sums_apart}
use Rattle.matching_laws.specs.Constructions.{Hold, Opening, Parted, all_but_first, as_inner, chain_back, chain_forth, hold_of, in_place, opened, pair_off}
use Rattle.matching_laws.specs.StepLaws.{forest, with_branches}
use Rattle.matching_laws.proofs.Opening.{chain_back_sum, chain_forth_sum, in_place_sum, pair_off_sum}
use Rattle.shown_search.specs.Shown.{Kept, IsSet, single, ring, AreChildren, IsBase, of_ring, itself as base_itself, AreTwos, IsAt, IsInTree, IsLinked, AreBranches, IsTree, AreTrees, ArePaired, Shows}
use Rattle.shown_search.specs.Growing.{TreeFirst}
use Rattle.shown_search.specs.Taken.{IsExpanded}
use Rattle.shown_search.proofs.Beside.{all_on_shown, branches_beside, in_first, in_later, in_left, in_right, in_tree_beside, linked_beside, paired_append, pairs_beside, trees_beside}
use Rattle.shown_search.proofs.Entries.{Found, found}
use Rattle.shown_search.proofs.Frames.{children_low}
use Rattle.shown_search.proofs.Fronts.{no_dist, tree_first_sum, trees_front}
use Rattle.shown_search.proofs.Growth.{base_is, base_low}
use Rattle.shown_openings.specs.Opening.{AreAway, AreHung, ComesApart, HangBack, HangForth, IsTop, OpenedLaw, Round, Writes, written}
use Rattle.shown_openings.proofs.Chains.{Carries, Mated, back_shown, forth_shown, pair_off_shown, twos_behind, twos_even, twos_split}
use Rattle.shown_openings.proofs.Children.{IsChild, Middle, Named, base_member, beside_at, children_named, named_append, named_length, named_middle, no_child_at}
use Rattle.shown_openings.proofs.Rounds.{first_of, turned_round}

abbrev side_sum : Measure → List Side → ℤ
side_sum m ss = int_sum_by (of m) ss

-- ---- an inner set in its tree
-- the sets of the branches but for an inner one
abbrev others_in : (bs : Branches) (x : Side) → IsInner bs x → List Side
others_in leaf x q = elim q [ ]
others_in (branch o i inner a b outer sub rest) x here =
    outer ∷ (branch_items sub ++ branch_items rest)
others_in (branch o i inner a b outer sub rest) x (under q) =
    inner ∷ outer ∷ (others_in sub x q ++ branch_items rest)
others_in (branch o i inner a b outer sub rest) x (after q) =
    inner ∷ outer ∷ (branch_items sub ++ others_in rest x q)

others_sum : (m : Measure) (bs : Branches) (x : Side) (q : IsInner bs x) →
    of m x +ℤ side_sum m (others_in bs x q) ≡ branch_sum m bs
others_sum m leaf x q = elim q [ ]
others_sum m (branch o i inner a b outer sub rest) x here = omega (
  arith,
  ints,
  int_sum_by-cons (of m) outer (branch_items sub ++ branch_items rest),
  int_sum_by-append (of m) (branch_items sub) (branch_items rest),
  branch_items_sum m sub,
  branch_items_sum m rest,
)
others_sum m (branch o i inner a b outer sub rest) x (under q) =
    let e = others_sum m sub x q in
    let items = others_in sub x q in
    omega (
      arith,
      ints,
      e,
      int_sum_by-cons (of m) inner (outer ∷ (items ++ branch_items rest)),
      int_sum_by-cons (of m) outer (items ++ branch_items rest),
      int_sum_by-append (of m) items (branch_items rest),
      branch_items_sum m rest,
    )
others_sum m (branch o i inner a b outer sub rest) x (after q) =
    let e = others_sum m rest x q in
    let items = others_in rest x q in
    omega (
      arith,
      ints,
      e,
      int_sum_by-cons (of m) inner (outer ∷ (branch_items sub ++ items)),
      int_sum_by-cons (of m) outer (branch_items sub ++ items),
      int_sum_by-append (of m) (branch_items sub) items,
      branch_items_sum m sub,
    )

inner_linked : (k : Kept) (number : ℕ → ℤ) (r : ℕ) (bs : Branches) (x : Side)
    (q : IsInner bs x) → AreBranches k number r bs →
    IsLinked k number r (hold_of bs x q).above (hold_of bs x q).at x (hold_of bs x q).out
inner_linked k number r leaf x q h = elim q [ ]
inner_linked k number r (branch o i inner a b outer sub rest) x here h = h.0
inner_linked k number r (branch o i inner a b outer sub rest) x (under q) h =
    inner_linked k number r sub x q h.3
inner_linked k number r (branch o i inner a b outer sub rest) x (after q) h =
    inner_linked k number r rest x q h.4

-- a tree with an inner set
record InnerTree (ts : List Tree) (x : Side) : Type 0 where
  tree : Tree
  trees : List Tree
  first : TreeFirst ts tree trees
  place : IsInner tree.branches x

abbrev IsInnerMark : Mark → Type 0
IsInnerMark Outer = ⊥
IsInnerMark Inner = Unit {0}
IsInnerMark Away = ⊥

not_root : (x y : Side) → ◌≡◌ {A = Entry} (Outer, y) (Inner, x) → ⊥
not_root x y e = subst (λ (p : Entry). IsInnerMark p.0) (sym e) tt

inner_tree : (ts : List Tree) (x : Side) → Stands (Inner, x) (marked_trees ts) → InnerTree ts x
inner_tree [] x at = absurd at
inner_tree (t ∷ ts) x (inl e) = absurd (not_root x t.root e)
inner_tree (t ∷ ts) x (inr at) =
    by_place (at_split (Inner, x) (marked_branches t.branches) (marked_trees ts) at)
    (λ r. inner_tree ts x r)
  where
    by_place : (Stands (Inner, x) (marked_branches t.branches) ⊎ Stands (Inner, x)
        (marked_trees ts)) → (Stands (Inner, x) (marked_trees ts) → InnerTree ts x) →
        InnerTree (t ∷ ts) x
    by_place (inl l) later = record {
      tree = t;
      trees = ts;
      first = record { before = []; behind = ts; whole = refl; rest = refl };
      place = inner_at t.branches x l;
    }
    by_place (inr r) later =
        let q = later r in
        record {
          tree = q.tree;
          trees = t ∷ q.trees;
          first = record {
            before = t ∷ q.first.before;
            behind = q.first.behind;
            whole = ap (λ xs. t ∷ xs) q.first.whole;
            rest = ap (λ xs. t ∷ xs) q.first.rest;
          };
          place = q.place;
        }

-- a set with children is a ring
ring_body : (k : Kept) (number : ℕ → ℤ) (set : ℕ) (b : Blossom) →
    IsSet k.vertices k.children k.joint number set b → k.vertices ≤ set →
    (ss : List Side) × (b ≡ ring_of ss) ×
    AreChildren k.vertices k.children k.joint number (k.children set) ss
ring_body k number set b (single low) from = absurd (omega (arith, low, from))
ring_body k number set b (ring ss from' e each) from = (ss, e, each)

-- how its base lies in its ring
record BaseIn (k : Kept) (set v : ℕ) : Type 0 where
  front : List ℕ
  child : ℕ
  back : List ℕ
  whole : k.children set ≡ front ++ child ∷ back
  based : IsBase k.vertices k.children k.joint k.base k.mate child v
  twos : AreTwos k.vertices k.children k.joint k.base k.mate (back ++ front)

base_in : (k : Kept) (set v : ℕ) → IsBase k.vertices k.children k.joint k.base k.mate set v →
    k.vertices ≤ set → BaseIn k set v
base_in k set v (base_itself low e) from = absurd (omega (arith, low, from))
base_in k set v (of_ring before c behind from' e b inner twos) from = record {
  front = before;
  child = c;
  back = behind;
  whole = e;
  based = inner;
  twos = twos;
}

-- ---- beside the set
module _ (k : Kept) (number : ℕ → ℤ) (set : ℕ) (w : Writes) (top : IsTop k set)
    (apart : ComesApart k set w) (gone : List ℕ) (good : (m : Mark) (c : ℕ) (y : Side) (u : ℕ) →
    is_in gone u ≡ false → IsAt k number m c y u → c ≡ set → ⊥) where
  abbrev now : Kept
  now = written k w

  at_stays : (m : Mark) (c : ℕ) (y : Side) (u : ℕ) → is_in gone u ≡ false →
      IsAt k number m c y u → IsAt now number m c y u
  at_stays m c y u out h = beside_at k number set w top apart m c y u (good m c y u out h) h

  label_stays : (m : Mark) (c : ℕ) (y : Side) (u : ℕ) → is_in gone u ≡ false →
      IsAt k number m c y u → now.label c ≡ k.label c
  label_stays m c y u out h = apart.labels c (no_child_at k number set w top apart m c y u h)

  link_stays : (m : Mark) (c : ℕ) (y : Side) (u : ℕ) → is_in gone u ≡ false →
      IsAt k number m c y u → now.link c ≡ k.link c
  link_stays m c y u out h = apart.links c (no_child_at k number set w top apart m c y u h)

  abbrev Out : List Side → Type 0
  Out xs = (u : ℕ) → is_in (side_members xs) u ≡ true → is_in gone u ≡ false

  in_tree_stays : (r : ℕ) (m : Mark) (x : Side) (v : ℕ) → is_in gone v ≡ false →
      IsInTree k number r m x v → IsInTree now number r m x v
  in_tree_stays = in_tree_beside k now number number gone at_stays label_stays link_stays
      (λ u z p. p) (λ u e. e)

  linked_stays : (r o i : ℕ) (x : Side) (v : ℕ) → is_in gone v ≡ false →
      IsLinked k number r o i x v → IsLinked now number r o i x v
  linked_stays = linked_beside k now number number gone at_stays label_stays link_stays
      (λ u z p. p) (λ u e. e)

  branches_stay : (r : ℕ) (bs : Branches) → AreBranches k number r bs → Out (branch_items bs) →
      AreBranches now number r bs
  branches_stay = branches_beside k now number number gone at_stays label_stays link_stays
      (λ u z p. p) (λ u e. e)

  trees_stay : (ts : List Tree) → AreTrees k number ts → Out (tree_items ts) →
      AreTrees now number ts
  trees_stay = trees_beside k now number number gone at_stays label_stays link_stays
      (λ u z p. p) (λ u e. e)

  pairs_stay : (ps : List Mate) → ArePaired k number ps → Out (mate_items ps) →
      ArePaired now number ps
  pairs_stay = pairs_beside k now number number gone at_stays label_stays link_stays
      (λ u z p. p) (λ u e. e)

  -- what hangs on the inner set
  carries_shown : (r : ℕ) (bs : Branches) (x : Side) (q : IsInner bs x) →
      AreBranches k number r bs → Out (others_in bs x q) →
      Carries k number set w top apart r (hold_of bs x q)
  carries_shown r leaf x q h out = elim q [ ]
  carries_shown r (branch o i inner a b outer sub rest) x here h out =
      let items = branch_items sub ++ branch_items rest in
      record {
        outer = in_tree_stays r Outer outer b (out b (in_first outer items b h.1.at.holds)) h.1;
        mates = h.2;
        branches = branches_stay r sub h.3 (λ u m. out u (in_later outer items u
            (in_left (branch_items sub) (branch_items rest) u m)));
      }
  carries_shown r (branch o i inner a b outer sub rest) x (under q) h out =
      let items = others_in sub x q ++ branch_items rest in
      carries_shown r sub x q h.3 (λ u m. out u (in_later inner (outer ∷ items) u
      (in_later outer items u (in_left (others_in sub x q) (branch_items rest) u m))))
  carries_shown r (branch o i inner a b outer sub rest) x (after q) h out =
      let items = branch_items sub ++ others_in rest x q in
      carries_shown r rest x q h.4 (λ u m. out u (in_later inner (outer ∷ items) u
      (in_later outer items u (in_right (branch_items sub) (others_in rest x q) u m))))

  in_place_shown : (r : ℕ) (bs : Branches) (x : Side) (q : IsInner bs x) (more : Branches) →
      AreBranches k number r bs → Out (others_in bs x q) → AreBranches now number r more →
      AreBranches now number r (in_place bs x q more)
  in_place_shown r leaf x q more h out shown = elim q [ ]
  in_place_shown r (branch o i inner a b outer sub rest) x here more h out shown =
      all_on_shown now number r more rest shown (branches_stay r rest h.4
      (λ u m. out u (in_later outer (branch_items sub ++ branch_items rest) u
      (in_right (branch_items sub) (branch_items rest) u m))))
  in_place_shown r (branch o i inner a b outer sub rest) x (under q) more h out shown =
      let items = others_in sub x q ++ branch_items rest in
      let behind : Out (outer ∷ items) = λ u m. out u (in_later inner (outer ∷ items) u m) in
      let later : Out items = λ u m. behind u (in_later outer items u m) in (
        linked_stays r o i inner a
            (out a (in_first inner (outer ∷ items) a h.0.in_tree.at.holds)) h.0,
        in_tree_stays r Outer outer b (behind b (in_first outer items b h.1.at.holds)) h.1,
        h.2,
        in_place_shown r sub x q more h.3 (λ u m. later u (in_left (others_in sub x q)
            (branch_items rest) u m)) shown,
        branches_stay r rest h.4 (λ u m. later u (in_right (others_in sub x q)
            (branch_items rest) u m)),
      )
  in_place_shown r (branch o i inner a b outer sub rest) x (after q) more h out shown =
      let items = branch_items sub ++ others_in rest x q in
      let behind : Out (outer ∷ items) = λ u m. out u (in_later inner (outer ∷ items) u m) in
      let later : Out items = λ u m. behind u (in_later outer items u m) in (
        linked_stays r o i inner a
            (out a (in_first inner (outer ∷ items) a h.0.in_tree.at.holds)) h.0,
        in_tree_stays r Outer outer b (behind b (in_first outer items b h.1.at.holds)) h.1,
        h.2,
        branches_stay r sub h.3 (λ u m. later u (in_left (branch_items sub)
            (others_in rest x q) u m)),
        in_place_shown r rest x q more h.4 (λ u m. later u (in_right (branch_items sub)
            (others_in rest x q) u m)) shown,
      )

-- ---- what becomes of the ring
module _ (k : Kept) (number : ℕ → ℤ) (set : ℕ) (w : Writes) (top : IsTop k set)
    (apart : ComesApart k set w) (r : ℕ) (ss : List Side) (h : Hold) where
  abbrev k' : Kept
  k' = written k w

  abbrev Named' : List ℕ → List Side → Type 0
  Named' cs xs = Named k number set w top apart cs xs

  abbrev IsChild' : ℕ → Side → Type 0
  IsChild' c s = IsChild k number set w top apart c s

  -- branches and pairs that are shown, with all sets of the ring and of what hung on it
  record Opens (new : Opening) : Type 0 where
    branches : AreBranches k' number r new.branches
    mates : ArePaired k' number new.mates
    same : (m : Measure) → branch_sum m new.branches +ℤ int_sum_by (mate_sum m) new.mates
        ≡ side_sum m ss +ℤ (of m h.outer +ℤ branch_sum m h.branches)

  -- the ring from its upper child on, by names and sets
  record IsRound (upper : ℕ) (way : List ℕ) (lower : ℕ) (beyond : List ℕ) (one : Side)
      (left : List Side) (low : Side) (right : List Side) : Type 0 where
    first : first_of (way ++ lower ∷ beyond) ≡ upper
    upper_named : IsChild' upper one
    way_named : Named' way left
    lower_named : IsChild' lower low
    beyond_named : Named' beyond right
    sum : (m : Measure) → side_sum m ss ≡ side_sum m left +ℤ (of m low +ℤ side_sum m right)
    begins : (s : Side) (xs : List Side) → left ≡ s ∷ xs → s ≡ one
    based : IsBase k.vertices k.children k.joint k.base k.mate lower h.out
    twos : Mated k number set w top apart (beyond ++ way)
    hung : AreHung k' r (h.at, h.above) way lower beyond upper
    carries : Carries k number set w top apart r h

  opens_at : (upper : ℕ) (way : List ℕ) (lower : ℕ) (beyond : List ℕ) (one : Side)
      (left : List Side) (low : Side) (right : List Side) →
      IsRound upper way lower beyond one left low right → (forwards : Bool) →
      length left % 2 == 0 ≡ forwards → Opens (cond forwards (record {
        branches = chain_forth h.above h.at left low h;
        mates = pair_off right;
      }) (record {
        branches = chain_back (low ∷ right) one h;
        mates = pair_off (all_but_first left);
      }))
  opens_at upper way lower beyond one left low right q true e = record {
    branches = forth_shown k number set w top apart r h.above h.at way left lower low h q.way_named
        q.lower_named q.based twos.1 hung.0 q.carries;
    mates = pair_off_shown k number set w top apart beyond right q.beyond_named twos.0 hung.1;
    same = λ m.
        let a = chain_forth_sum no_dist (pos 0) m h.above h.at left low h even in
        let b = pair_off_sum no_dist (pos 0) m right right_even in
        let c = q.sum m in
        omega (arith, ints, a, b, c);
  }
    where
      even : length left % 2 ≡ 0
      even = eqb-true (length left % 2) 0 e

      lengths : length left ≡ length way
      lengths = named_length k number set w top apart way left q.way_named

      right_lengths : length right ≡ length beyond
      right_lengths = named_length k number set w top apart beyond right q.beyond_named

      way_even : length way % 2 ≡ 0
      way_even = omega (arith, even, lengths)

      beyond_even : length beyond % 2 ≡ 0
      beyond_even = let a = twos_even k.vertices k.children k.joint k.base k.mate (beyond ++ way)
          q.twos in omega (arith, a, way_even, length-append beyond way)

      right_even : length right % 2 ≡ 0
      right_even = omega (arith, beyond_even, right_lengths)

      twos : AreTwos k.vertices k.children k.joint k.base k.mate beyond
          × AreTwos k.vertices k.children k.joint k.base k.mate way
      twos = twos_split k.vertices k.children k.joint k.base k.mate beyond way beyond_even q.twos

      hung : HangForth k' r (h.at, h.above) way lower × AreAway k' beyond
      hung = q.hung.forth way_even
  opens_at upper [] lower beyond one left low right q false e = absurd (true≢false
      (sym (eq-eqb (length left % 2) 0 none) ∙ e))
    where
      none : length left % 2 ≡ 0
      none = let a : length left ≡ 0 =
          named_length k number set w top apart [] left q.way_named in omega (arith, a)
  opens_at upper (c ∷ way) lower beyond one [] low right q false e = absurd q.way_named
  opens_at upper (c ∷ way) lower beyond one (s ∷ left) low right q false e = record {
    branches = back_shown k number set w top apart r (lower ∷ beyond) (low ∷ right) upper one way h
        (q.lower_named, q.beyond_named) q.upper_named q.based
        (subst (λ z. AreTwos k.vertices k.children k.joint k.base k.mate (beyond ++ z ∷ way)) is
        q.twos) hung.0 q.carries;
    mates = pair_off_shown k number set w top apart way left q.way_named.1
        (twos_behind k.vertices k.children k.joint k.base k.mate beyond c way beyond_odd q.twos)
        hung.1;
    same = λ m.
        let a = chain_back_sum no_dist (pos 0) m (low ∷ right) one h right_even in
        let b = pair_off_sum no_dist (pos 0) m left left_even in
        let d = q.sum m in
        let same : of m s ≡ of m one = ap (of m) (q.begins s left refl) in
        omega (
          arith,
          ints,
          a,
          b,
          d,
          same,
          int_sum_by-cons (of m) s left,
          int_sum_by-cons (of m) low right,
        );
  }
    where
      is : c ≡ upper
      is = q.first

      odd : length (s ∷ left) % 2 ≡ 0 → ⊥
      odd z = true≢false (sym (eq-eqb (length (s ∷ left) % 2) 0 z) ∙ e)

      lengths : length left ≡ length way
      lengths = named_length k number set w top apart way left q.way_named.1

      right_lengths : length right ≡ length beyond
      right_lengths = named_length k number set w top apart beyond right q.beyond_named

      way_odd : length (c ∷ way) % 2 ≡ 0 → ⊥
      way_odd z = odd (omega (arith, z, lengths))

      left_even : length left % 2 ≡ 0
      left_even = omega (arith, odd)

      beyond_odd : length beyond % 2 ≡ 1
      beyond_odd = let a = twos_even k.vertices k.children k.joint k.base k.mate
          (beyond ++ c ∷ way) q.twos in
          omega (arith, a, left_even, lengths, length-append beyond (c ∷ way))

      right_even : length (low ∷ right) % 2 ≡ 0
      right_even = omega (arith, beyond_odd, right_lengths)

      hung : HangBack k' r (h.at, h.above) (lower ∷ beyond) upper × AreAway k' way
      hung = q.hung.back way_odd

-- ---- the whole search
module _ (k : Kept) (number : ℕ → ℤ) (s : Search) (v : ℕ) (h : Shows k number s)
    (from : k.vertices ≤ k.top v) (top : IsTop k (k.top v))
    (link_low : (k.link (k.top v)).0 < k.vertices) (w : Writes)
    (apart : ComesApart k (k.top v) w) (q : Round k (k.top v) w.top)
    (hung : AreHung (written k w) (k.label (k.top v)) (k.link (k.top v)) q.way q.lower q.beyond
    q.upper) (tree : Tree) (trees : List Tree) (first : TreeFirst s.trees tree trees)
    (ss : List Side) (out into : ℕ) (place : IsInner tree.branches (as_inner ss out into))
    (holds : has (as_inner ss out into) v)
    (each : AreChildren k.vertices k.children k.joint number (k.children (k.top v)) ss) where
  abbrev set : ℕ
  set = k.top v

  abbrev x : Side
  x = as_inner ss out into

  abbrev hold : Hold
  hold = hold_of tree.branches x place

  shown : IsTree k number tree × AreTrees k number trees
  shown = trees_front k number s.trees tree trees first h.trees

  abbrev r : ℕ
  r = shown.0.free

  linked : IsLinked k number r hold.above hold.at x hold.out
  linked = inner_linked k number r tree.branches x place shown.0.branches

  name_is : set ≡ linked.in_tree.name
  name_is = linked.in_tree.at.tops v holds

  link_is : k.link set ≡ (hold.at, hold.above)
  link_is = ap k.link name_is ∙ linked.linked

  label_is : k.label set ≡ r
  label_is = ap k.label name_is ∙ linked.in_tree.labelled

  based : IsBase k.vertices k.children k.joint k.base k.mate set hold.out
  based = subst (λ c. IsBase k.vertices k.children k.joint k.base k.mate c hold.out) (sym name_is)
      linked.in_tree.at.based

  -- ---- all sets but this one
  abbrev others : List Side
  others = tree.root ∷ (others_in tree.branches x place ++ (tree_items trees ++ mate_items s.mates))

  all_sum : (m : Measure) → side_sum m (x ∷ others) ≡ search_sum m s
  all_sum m =
      let a = others_sum m tree.branches x place in
      let b = tree_first_sum m s.trees tree trees first in
      let items = others_in tree.branches x place in
      omega (
        arith,
        ints,
        a,
        b,
        int_sum_by-cons (of m) x others,
        int_sum_by-cons (of m) tree.root (items ++ (tree_items trees ++ mate_items s.mates)),
        int_sum_by-append (of m) items (tree_items trees ++ mate_items s.mates),
        int_sum_by-append (of m) (tree_items trees) (mate_items s.mates),
        tree_items_sum m trees,
        mate_items_sum m s.mates,
        int_sum_by-cons (tree_sum m) tree trees,
      )

  parts : AreApart (members x.body) × AreApart (side_members others) × ((u : ℕ) → has x u →
      is_in (side_members others) u ≡ false)
  parts = apart_append (members x.body) (side_members others)
      (sums_apart no_dist k.vertices (x ∷ others) (λ f. all_sum (summed f) ∙ h.covers f))

  abbrev gone : List ℕ
  gone = members x.body

  out_of : (u : ℕ) → is_in (side_members others) u ≡ true → is_in gone u ≡ false
  out_of u m = false_from_ne_true (is_in gone u) (λ i. false≢true (sym (parts.2 u i) ∙ m))

  good : (m : Mark) (c : ℕ) (y : Side) (u : ℕ) → is_in gone u ≡ false → IsAt k number m c y u →
      c ≡ set → ⊥
  good m c y u away at e = false≢true (sym away ∙ linked.in_tree.at.only u
      (base_low k.vertices k.children k.joint k.base k.mate c u at.based)
      (at.tops u at.holds ∙ e ∙ name_is))

  -- ---- the ring
  in_ring : (u : ℕ) → is_in (side_members ss) u ≡ true → has x u
  in_ring u m = ap (λ xs. is_in xs u) (members_ring ss) ∙ m

  named : Named k number set w top apart (k.children set) ss
  named = children_named k number set w top apart (k.children set) ss each
      (λ c m. (top.alone set c from m, m)) (subst AreApart (members_ring ss) parts.0) (λ u m.
      let low = children_low k.vertices k.children k.joint number (k.children set) ss each u m in
      let o = apart.opened u low (linked.in_tree.at.tops u (in_ring u m) ∙ sym name_is) in
      (low, o.0, o.1))

  upper_at : Middle k number set w top apart q.before q.upper q.behind ss
  upper_at = named_middle k number set w top apart q.before q.upper q.behind ss
      (subst (λ cs. Named k number set w top apart cs ss) q.whole named)

  abbrev turned : List Side
  turned = upper_at.side ∷ (upper_at.right ++ upper_at.left)

  lower_at : Middle k number set w top apart q.way q.lower q.beyond turned
  lower_at = named_middle k number set w top apart q.way q.lower q.beyond turned
      (subst (λ cs. Named k number set w top apart cs turned) q.round
      (named_append k number set w top apart (q.upper ∷ q.behind) q.before
      (upper_at.side ∷ upper_at.right) upper_at.left (upper_at.at, upper_at.two) upper_at.one))

  at_low : hold.at < k.vertices
  at_low = subst (λ (p : ℕ × ℕ). p.0 < k.vertices) link_is link_low

  at_upper : w.top hold.at ≡ q.upper
  at_upper = ap (λ (p : ℕ × ℕ). w.top p.0) (sym link_is) ∙ q.hangs

  out_low : hold.out < k.vertices
  out_low = base_low k.vertices k.children k.joint k.base k.mate set hold.out based

  out_lower : w.top hold.out ≡ q.lower
  out_lower = ap w.top (sym (base_is k.vertices k.children k.joint k.base k.mate set hold.out
      based)) ∙ q.holds

  abbrev parted : Parted ss hold
  parted = record {
    before = upper_at.left;
    upper = upper_at.side;
    behind = upper_at.right;
    whole = upper_at.whole;
    hangs = upper_at.at.only hold.at at_low at_upper;
    way = lower_at.left;
    lower = lower_at.side;
    beyond = lower_at.right;
    round = lower_at.whole;
    holds = lower_at.at.only hold.out out_low out_lower;
  }

  base_at : BaseIn k set hold.out
  base_at = base_in k set hold.out based from

  base_middle : Middle k number set w top apart base_at.front base_at.child base_at.back ss
  base_middle = named_middle k number set w top apart base_at.front base_at.child base_at.back ss
      (subst (λ cs. Named k number set w top apart cs ss) base_at.whole named)

  base_child : base_at.child ≡ q.lower
  base_child = sym (base_middle.at.tops hold.out (base_member k.vertices k.children k.joint number
      k.base k.mate base_at.child hold.out base_at.based base_middle.side.body
      base_middle.at.is_set))
      ∙ out_lower

  ring_order : base_at.back ++ base_at.front ≡ q.beyond ++ q.way
  ring_order = turned_round q.before q.upper q.behind q.way q.lower q.beyond base_at.front
      base_at.back (subst AreApart q.whole top.apart) q.round
      (sym q.whole ∙ base_at.whole ∙ ap (λ c. base_at.front ++ c ∷ base_at.back) base_child)

  ring_sum : (m : Measure) → side_sum m ss ≡ side_sum m lower_at.left +ℤ
      (of m lower_at.side +ℤ side_sum m lower_at.right)
  ring_sum m =
      let a : side_sum m ss ≡ side_sum m (upper_at.left ++ upper_at.side ∷ upper_at.right) =
      ap (side_sum m) upper_at.whole in
      let b : side_sum m ((upper_at.side ∷ upper_at.right) ++ upper_at.left)
      ≡ side_sum m (lower_at.left ++ lower_at.side ∷ lower_at.right) =
      ap (side_sum m) lower_at.whole in
      omega (
        arith,
        ints,
        a,
        b,
        int_sum_by-append (of m) upper_at.left (upper_at.side ∷ upper_at.right),
        int_sum_by-append (of m) (upper_at.side ∷ upper_at.right) upper_at.left,
        int_sum_by-append (of m) lower_at.left (lower_at.side ∷ lower_at.right),
        int_sum_by-cons (of m) lower_at.side lower_at.right,
      )

  abbrev head_of : List Side → Side → Side
  head_of [] d = d
  head_of (y ∷ ys) d = y

  begins : (y : Side) (ys : List Side) → lower_at.left ≡ y ∷ ys → y ≡ upper_at.side
  begins y ys e =
      sym (ap (λ zs. head_of (zs ++ lower_at.side ∷ lower_at.right) y) e)
      ∙ sym (ap (λ zs. head_of zs y) lower_at.whole)

  round : IsRound k number set w top apart r ss hold q.upper q.way q.lower q.beyond upper_at.side
      lower_at.left lower_at.side lower_at.right
  round = record {
    first = sym (ap first_of q.round);
    upper_named = upper_at.at;
    way_named = lower_at.one;
    lower_named = lower_at.at;
    beyond_named = lower_at.two;
    sum = ring_sum;
    begins = begins;
    based = subst (λ c. IsBase k.vertices k.children k.joint k.base k.mate c hold.out) base_child
        base_at.based;
    twos = subst (λ cs. AreTwos k.vertices k.children k.joint k.base k.mate cs) ring_order
        base_at.twos;
    hung = subst (λ (p : ℕ × ℕ). AreHung (written k w) r p q.way q.lower q.beyond q.upper) link_is
        (subst (λ c. AreHung (written k w) c (k.link set) q.way q.lower q.beyond q.upper) label_is
        hung);
    carries = carries_shown k number set w top apart gone good r tree.branches x place
        shown.0.branches out_branches;
  }
    where
      out_branches : (u : ℕ) → is_in (side_members (others_in tree.branches x place)) u ≡ true →
          is_in gone u ≡ false
      out_branches u m = out_of u (in_later tree.root
          (others_in tree.branches x place ++ (tree_items trees ++ mate_items s.mates)) u
          (in_left (others_in tree.branches x place) (tree_items trees ++ mate_items s.mates) u m))

  -- ---- the search after it
  abbrev new : Opening
  new = opened ss hold parted

  opens : Opens k number set w top apart r ss hold new
  opens = opens_at k number set w top apart r ss hold q.upper q.way q.lower q.beyond upper_at.side
      lower_at.left lower_at.side lower_at.right round (length lower_at.left % 2 == 0) refl

  abbrev new_tree : Tree
  new_tree = with_branches tree (in_place tree.branches x place new.branches)

  abbrev after_it : Search
  after_it = forest (new_tree ∷ trees) (new.mates ++ s.mates)

  new_sum : (f : ℕ → ℤ) → search_sum (summed f) after_it ≡ search_sum (summed f) s
  new_sum f =
      let m : Measure = summed f in
      let a = opens.same m in
      let b = in_place_sum m tree.branches x place new.branches in
      let c = tree_first_sum m s.trees tree trees first in
      let d = summed_shrunk ss f in
      omega (
        arith,
        ints,
        a,
        b,
        c,
        d,
        int_sum_by-cons (tree_sum m) tree trees,
        int_sum_by-cons (tree_sum m) new_tree trees,
        int_sum_by-append (mate_sum m) new.mates s.mates,
      )

  abbrev later : List Side
  later = others_in tree.branches x place ++ (tree_items trees ++ mate_items s.mates)

  out_later : (u : ℕ) → is_in (side_members later) u ≡ true → is_in gone u ≡ false
  out_later u m = out_of u (in_later tree.root later u m)

  out_rest : (u : ℕ) → is_in (side_members (tree_items trees ++ mate_items s.mates)) u ≡ true →
      is_in gone u ≡ false
  out_rest u m = out_later u (in_right (others_in tree.branches x place)
      (tree_items trees ++ mate_items s.mates) u m)

  new_shown : Shows (written k w) number after_it
  new_shown = record {
    trees = (
      record {
        free = r;
        unmatched = shown.0.unmatched;
        root = in_tree_stays k number set w top apart gone good r Outer tree.root r
            (out_of r (in_first tree.root later r shown.0.root.at.holds)) shown.0.root;
        branches = in_place_shown k number set w top apart gone good r tree.branches x place
            new.branches shown.0.branches
            (λ u m. out_later u (in_left (others_in tree.branches x place)
            (tree_items trees ++ mate_items s.mates) u m)) opens.branches;
      },
      trees_stay k number set w top apart gone good trees shown.1
          (λ u m. out_rest u (in_left (tree_items trees) (mate_items s.mates) u m)),
    );
    mates = paired_append (written k w) number new.mates s.mates opens.mates
        (pairs_stay k number set w top apart gone good s.mates h.mates
        (λ u m. out_rest u (in_right (tree_items trees) (mate_items s.mates) u m)));
    covers = λ f. new_sum f ∙ h.covers f;
  }

  come_apart : (s' : Search) × IsExpanded s s' v × Shows (written k w) number s'
  come_apart = (
    after_it,
    record {
      tree = tree;
      trees = trees;
      tree_first = first;
      sides = ss;
      out = out;
      into = into;
      place = place;
      holds = holds;
      parted = parted;
      after = refl;
    },
    new_shown,
  )

-- a side with the number 0 and a ring for a body
abbrev with_body : Side → Blossom → ℤ → Side
with_body y b z = record { body = b; number = z; out = y.out; into = y.into }

ring_side : (y : Side) (ss : List Side) → y.body ≡ ring_of ss → y.number ≡ pos 0 →
    y ≡ as_inner ss y.out y.into
ring_side y ss body zero =
    let whole : with_body y y.body y.number ≡ with_body y (ring_of ss) (pos 0) =
    ap (λ b. with_body y b y.number) body ∙ ap (with_body y (ring_of ss)) zero in whole

pub opened_law : OpenedLaw
opened_law k number s v h low from inner zero top link_low w apart q hung =
    by_found (found k number s h v low)
  where
    by_ring : (y : Side) (t : InnerTree s.trees y) → has y v → (c : ℕ) (z : ℕ) →
        IsAt k number Inner c y z → k.top v ≡ c →
        (s' : Search) × IsExpanded s s' v × Shows (written k w) number s'
    by_ring y t holds c z at name =
        let b = ring_body k number c y.body at.set (subst (λ n. k.vertices ≤ n) name from) in
        let zero_is : y.number ≡ pos 0 = at.numbered ∙ ap number (sym name) ∙ zero in
        let same = ring_side y b.0 b.1 zero_is in
        come_apart k number s v h from top link_low w apart q hung t.tree t.trees t.first b.0
        y.out y.into (subst (IsInner t.tree.branches) same t.place)
        (subst (λ (d : Side). has d v) same holds)
        (subst (λ n. AreChildren k.vertices k.children k.joint number (k.children n) b.0)
        (sym name) b.2)

    by_tree : (y : Side) → has y v → InnerTree s.trees y →
        (s' : Search) × IsExpanded s s' v × Shows (written k w) number s'
    by_tree y holds t =
        let shown = trees_front k number s.trees t.tree t.trees t.first h.trees in
        let l = inner_linked k number shown.0.free t.tree.branches y t.place shown.0.branches in
        by_ring y t holds l.in_tree.name (hold_of t.tree.branches y t.place).out l.in_tree.at
        (l.in_tree.at.tops v holds)

    by_found : Found k number s v →
        (s' : Search) × IsExpanded s s' v × Shows (written k w) number s'
    by_found f =
        let at : Stands (Inner, f.side) (marked_trees s.trees ++ marked_mates s.mates) =
        subst (λ m. Stands (m, f.side) (marked_trees s.trees ++ marked_mates s.mates)) inner
        f.stands in
        by_tree f.side f.holds (inner_tree s.trees f.side
        (⊎_elim (λ l. l) (λ r. absurd (no_inner_mates s.mates f.side r))
        (at_split (Inner, f.side) (marked_trees s.trees) (marked_mates s.mates) at)))
