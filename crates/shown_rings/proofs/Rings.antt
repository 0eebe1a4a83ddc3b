-- What is kept shows a ring that has become one set.
use Rattle.std.proofs.Common.{◌≡◌, ℕ, ◌≤◌, ◌<◌, ◌||◌, Bool, true, false, cond, List, [], ◌∷◌, ◌++◌, refl, sym, ap, ◌∙◌, subst, ⊎_elim}
use Rattle.std.specs.Prelude.{ℤ, pos}
use Rattle.std.proofs.lemmas.Bool.{false≢true, false_from_ne_true, or_cases}
use Rattle.graph_model.specs.Graph.{is_in}
use Rattle.graph_model.proofs.Members.{is_in_first, is_in_rest, is_in_cases}
use Rattle.matching_model.specs.Blossoms.{Side, has, members, side_members}
use Rattle.matching_model.specs.Forests.{Branches, leaf, branch, Mate, Tree, Mark, Outer, Inner, IsOuter, root, below, beside, AreTwo, split, both_below, both_beside}
use Rattle.matching_model.proofs.Exposed.{is_in-append}
use Rattle.matching_model.proofs.Slacks.{members_ring, branch_items, tree_items, mate_items}
use Rattle.matching_laws.specs.Constructions.{Sense, to_first, to_second, all_on, as_one, branches_with, joined, off_way, ring_at, ring_between, top_with, way_down, way_up}
use Rattle.shown_search.specs.Shown.{Kept, IsSet, ring, AreChildren, no_child, child, IsBase, of_ring, AreTwos, no_two, two, IsAt, IsInTree, IsLinked, AreBranches, AreTrees, ArePaired}
use Rattle.shown_search.specs.Growing.{put}
use Rattle.shown_rings.specs.Shrinking.{AreJoined, IsFree, Own, first_of, names_of, shrunk}
use Rattle.shown_search.proofs.Beside.{all_on_shown, branches_beside, in_first, in_later, in_left, in_right, in_tree_beside, linked_beside, pairs_beside, trees_beside}
use Rattle.shown_search.proofs.Frames.{same_set, same_base}
use Rattle.shown_search.proofs.Growth.{put_there, put_else, base_is, base_low}

-- ---- the sets of a ring in their tree
module _ (k : Kept) (number : ℕ → ℤ) (r : ℕ) where
  -- a set of the tree, by whatever pair it is joined to the next
  pub record InTree (x : Side) : Type 0 where
    pub mark : Mark
    pub vertex : ℕ
    pub there : IsInTree k number r mark x vertex

  abbrev pub EachIn : List Side → Type 0
  EachIn [] = Unit {0}
  EachIn (x ∷ xs) = InTree x × EachIn xs

  joined_at : (m : Mark) (s : ℕ) (x : Side) (v a b : ℕ) → IsAt k number m s x v →
      IsAt k number m s (joined x a b) v
  joined_at m s x v a b h = record {
    set = h.set;
    numbered = h.numbered;
    tops = h.tops;
    only = h.only;
    based = h.based;
    holds = h.holds;
    marked = h.marked;
  }

  joined_in : (m : Mark) (x : Side) (v a b : ℕ) → IsInTree k number r m x v → InTree (joined x a b)
  joined_in m x v a b h = record {
    mark = m;
    vertex = v;
    there = record {
      name = h.name;
      at = joined_at m h.name x v a b h.at;
      labelled = h.labelled;
    };
  }

  each_append : (xs ys : List Side) → EachIn xs → EachIn ys → EachIn (xs ++ ys)
  each_append [] ys a b = b
  each_append (x ∷ xs) ys a b = (a.0, each_append xs ys a.1 b)

  down_in : (top : Side) (z : ℕ) (bs : Branches) (x : Side) (q : IsOuter top bs x) →
      IsInTree k number r Outer top z → AreBranches k number r bs → EachIn (way_down top bs x q)
  down_in top z bs x root t h = tt
  down_in top z (branch o i inner a b outer sub rest) x (below q) t h = (
    joined_in Outer top z o i t,
    (
      joined_in Inner inner a a b h.0.in_tree,
      down_in outer b sub x q h.1 h.3,
    ),
  )
  down_in top z (branch o i inner a b outer sub rest) x (beside q) t h =
      down_in top z rest x q t h.4

  up_in : (top : Side) (bs : Branches) (x : Side) (q : IsOuter top bs x) →
      AreBranches k number r bs → EachIn (way_up top bs x q)
  up_in top bs x root h = tt
  up_in top (branch o i inner a b outer sub rest) x (below q) h =
      each_append (way_up outer sub x q) (joined outer b a ∷ joined inner i o ∷ [])
      (up_in outer sub x q h.3) (
        joined_in Outer outer b b a h.1,
        (joined_in Inner inner a i o h.0.in_tree, tt),
      )
  up_in top (branch o i inner a b outer sub rest) x (beside q) h = up_in top rest x q h.4

  outer_in : (top : Side) (z : ℕ) (bs : Branches) (x : Side) (q : IsOuter top bs x) (u w : ℕ) →
      IsInTree k number r Outer top z → AreBranches k number r bs → InTree (joined x u w)
  outer_in top z bs x root u w t h = joined_in Outer top z u w t
  outer_in top z (branch o i inner a b outer sub rest) x (below q) u w t h =
      outer_in outer b sub x q u w h.1 h.3
  outer_in top z (branch o i inner a b outer sub rest) x (beside q) u w t h =
      outer_in top z rest x q u w t h.4

  pub ring_in : (top : Side) (z : ℕ) (bs : Branches) (x : Side) (p : IsOuter top bs x) (y : Side)
      (q : IsOuter top bs y) (u w : ℕ) → IsInTree k number r Outer top z →
      AreBranches k number r bs →
      EachIn (ring_at top bs x p y q u w)
  ring_in top z bs x p y q u w t h =
      each_append (way_down top bs x p) (joined x u w ∷ way_up top bs y q)
      (down_in top z bs x p t h) (outer_in top z bs x p u w t h, up_in top bs y q h)

  -- ---- what is left beside the ring
  off_shown : (top : Side) (bs : Branches) (x : Side) (q : IsOuter top bs x) →
      AreBranches k number r bs → AreBranches k number r (off_way top bs x q)
  off_shown top bs x root h = h
  off_shown top (branch o i inner a b outer sub rest) x (below q) h =
      all_on_shown k number r (off_way outer sub x q) rest (off_shown outer sub x q h.3) h.4
  off_shown top (branch o i inner a b outer sub rest) x (beside q) h =
      (h.0, h.1, h.2, h.3, off_shown top rest x q h.4)

-- the sets of a tree that are not in the ring
abbrev pub beside_items : (top : Side) (bs : Branches) (x y : Side) → AreTwo top bs x y → List Side
beside_items top leaf x y places = elim places [ ]
beside_items top (branch o i inner a b outer sub rest) x y (split p q) =
    branch_items (all_on (off_way top rest y q) (off_way outer sub x p))
beside_items top (branch o i inner a b outer sub rest) x y (both_below c) =
    top ∷ inner ∷ (beside_items outer sub x y c ++ branch_items rest)
beside_items top (branch o i inner a b outer sub rest) x y (both_beside c) =
    inner ∷ outer ∷ (branch_items sub ++ beside_items top rest x y c)

-- ---- after the writes
module _ (k : Kept) (number : ℕ → ℤ) (r : ℕ) (joint : ℕ →
    ℕ × ℕ) (ss : List Side) (set : ℕ) (each : EachIn k number r ss) (own : Own ss)
    (free : IsFree k (names_of k ss) set)
    (joints : (c : ℕ) → is_in (names_of k ss) c ≡ false → joint c ≡ k.joint c) where
  abbrev names : List ℕ
  names = names_of k ss

  abbrev k' : Kept
  k' = shrunk k joint (names_of k ss) set

  abbrev number' : ℕ → ℤ
  number' = put number set (pos 0)

  abbrev Good : ℕ → Type 0
  Good c = set ≡ c → ⊥

  kids : (s : ℕ) → Good s → k.vertices ≤ s → k'.children s ≡ k.children s
  kids s good from = put_else k.children set (names_of k ss) s good

  inside : (s c : ℕ) → Good s → k.vertices ≤ s → is_in (k.children s) c ≡ true →
      Good c × (joint c ≡ k.joint c)
  inside s c good from m = (
    λ e. free.no_child s c from m (sym e),
    joints c (free.outermost s c from m),
  )

  numbers : (s c : ℕ) → Good s → k.vertices ≤ s → is_in (k.children s) c ≡ true →
      number' c ≡ number c
  numbers s c good from m = put_else number set (pos 0) c (inside s c good from m).0

  -- a set that stood before
  still_set : (m : Mark) (s : ℕ) (x : Side) (v : ℕ) → Good s → IsAt k number m s x v →
      IsSet k.vertices k'.children joint number' s x.body
  still_set m s x v good h =
      same_set k.vertices k.children k'.children k.joint joint Good kids number number' inside
      numbers s x.body h.set good

  still_based : (s v : ℕ) → Good s → IsBase k.vertices k.children k.joint k.base k.mate s v →
      IsBase k.vertices k'.children joint k'.base k.mate s v
  still_based s v good h =
      same_base k.vertices k.children k'.children k.joint joint Good kids k.base k'.base k.mate
      k.mate inside (λ c g. put_else k.base set (k.base (first_of (names_of k ss))) c g)
      (λ u. refl) s v h good

  -- no outermost set has the new name
  not_new : (m : Mark) (s : ℕ) (x : Side) (v : ℕ) → IsAt k number m s x v → Good s
  not_new m s x v h e =
      free.unused v (base_low k.vertices k.children k.joint k.base k.mate s v h.based)
      (h.tops v h.holds ∙ sym e)

  -- ---- the ring's names
  named_in : (xs : List Side) → EachIn k number r xs → Own xs → (v : ℕ) → v < k.vertices →
      is_in (names_of k xs) (k.top v) ≡ true → is_in (side_members xs) v ≡ true
  named_in [] e o v low m = absurd (false≢true m)
  named_in (x ∷ xs) e o v low m =
      is_in-append (members x.body) (side_members xs) v ∙
      ⊎_elim
      (λ same. ap (λ b. b || is_in (side_members xs) v)
      (e.0.there.at.only v low (sym same ∙ e.0.there.at.tops x.out o.0)))
      (λ later. ap (λ b. is_in (members x.body) v || b) (named_in xs e.1 o.1 v low later)
      ∙ or_true (is_in (members x.body) v)) (is_in_cases (k.top x.out) (k.top v)
      (names_of k xs) m)
    where
      or_true : (b : Bool) → b || true ≡ true
      or_true true = refl
      or_true false = refl

  in_named : (xs : List Side) → EachIn k number r xs → Own xs → (v : ℕ) →
      is_in (side_members xs) v ≡ true → is_in (names_of k xs) (k.top v) ≡ true
  in_named [] e o v m = absurd (false≢true m)
  in_named (x ∷ xs) e o v m =
      ⊎_elim
      (λ here. subst (λ c. is_in (names_of k (x ∷ xs)) c ≡ true) (e.0.there.at.tops x.out o.0
      ∙ sym (e.0.there.at.tops v here)) (is_in_first (k.top x.out) (names_of k xs)))
      (λ later. is_in_rest (k.top x.out) (k.top v) (names_of k xs) (in_named xs e.1 o.1 v later))
      (or_cases (is_in (members x.body) v) (is_in (side_members xs) v)
      (sym (is_in-append (members x.body) (side_members xs) v) ∙ m))

  -- ---- sets beside the ring
  abbrev pub Outside : List Side → Type 0
  Outside xs = (v : ℕ) → is_in (side_members xs) v ≡ true → is_in (side_members ss) v ≡ false

  beside_at : (m : Mark) (s : ℕ) (x : Side) (v : ℕ) → is_in (side_members ss) v ≡ false →
      IsAt k number m s x v → IsAt k' number' m s x v
  beside_at m s x v out h = record {
    set = still_set m s x v good h;
    numbered = h.numbered ∙ sym (put_else number set (pos 0) s good);
    tops = λ u i. ap (λ b. cond b set (k.top u)) (ap (is_in names) (h.tops u i) ∙ far) ∙ h.tops u i;
    only = λ u low e. h.only u low (back u (is_in names (k.top u)) refl e);
    based = still_based s v good h.based;
    holds = h.holds;
    marked = put_else k.mark set Outer s good ∙ h.marked;
  }
    where
      good : Good s
      good = not_new m s x v h

      low_v : v < k.vertices
      low_v = base_low k.vertices k.children k.joint k.base k.mate s v h.based

      far : is_in names s ≡ false
      far = false_from_ne_true (is_in names s) (λ i. false≢true (sym out
          ∙ named_in ss each own v low_v (subst (λ c. is_in names c ≡ true)
          (sym (h.tops v h.holds)) i)))

      back : (u : ℕ) (b : Bool) → is_in names (k.top u) ≡ b →
          cond (is_in names (k.top u)) set (k.top u) ≡ s → k.top u ≡ s
      back u true e same = absurd (good (sym (ap (λ b. cond b set (k.top u)) e) ∙ same))
      back u false e same = sym (ap (λ b. cond b set (k.top u)) e) ∙ same

  label_beside : (m : Mark) (s : ℕ) (x : Side) (v : ℕ) → is_in (side_members ss) v ≡ false →
      IsAt k number m s x v → k'.label s ≡ k.label s
  label_beside m s x v out h =
      put_else k.label set (k.label (first_of (names_of k ss))) s (not_new m s x v h)

  beside_in : (t : ℕ) (m : Mark) (x : Side) (v : ℕ) → is_in (side_members ss) v ≡ false →
      IsInTree k number t m x v → IsInTree k' number' t m x v
  beside_in = in_tree_beside k k' number number' (side_members ss) beside_at label_beside
      (λ m s x v out h. refl) (λ u w p. p) (λ u e. e)

  beside_linked : (t o i : ℕ) (x : Side) (v : ℕ) → is_in (side_members ss) v ≡ false →
      IsLinked k number t o i x v → IsLinked k' number' t o i x v
  beside_linked = linked_beside k k' number number' (side_members ss) beside_at label_beside
      (λ m s x v out h. refl) (λ u w p. p) (λ u e. e)

  -- ---- the new set
  -- the children under their names
  children_shown : (xs : List Side) → EachIn k number r xs → Own xs → AreJoined k joint xs →
      AreChildren k.vertices k'.children joint number' (names_of k xs) xs
  children_shown [] e o j = no_child
  children_shown (x ∷ xs) e o j =
      let h = e.0.there.at in
      let name : k.top x.out ≡ e.0.there.name = h.tops x.out o.0 in
      let good = not_new e.0.mark e.0.there.name x e.0.vertex h in
      child
      (subst (λ c. IsSet k.vertices k'.children joint number' c x.body) (sym name)
      (still_set e.0.mark e.0.there.name x e.0.vertex good h))
      (h.numbered ∙ sym (put_else number set (pos 0) e.0.there.name good) ∙ ap number' (sym name))
      j.0
      (children_shown xs e.1 o.1 j.1)

  -- a set of the tree has its base, whatever vertex names it
  based_at : (m : Mark) (x : Side) (v c : ℕ) → IsInTree k number r m x v → has x c →
      IsBase k.vertices k'.children joint k'.base k.mate (k.top c) v
  based_at m x v c h i =
      subst (λ s. IsBase k.vertices k'.children joint k'.base k.mate s v) (sym (h.at.tops c i))
      (still_based h.name v (not_new m h.name x v h.at) h.at.based)

  abbrev pub Twos : List Side → Type 0
  Twos xs = AreTwos k.vertices k'.children joint k'.base k.mate (names_of k xs)

  abbrev pub all_behind : List Side → List Side
  all_behind [] = []
  all_behind (x ∷ xs) = xs

  -- up a way, each outer set is mated to the inner one above it
  up_twos : (top : Side) (bs : Branches) (x : Side) (q : IsOuter top bs x) (tail : List Side) →
      AreBranches k number r bs → Own (way_up top bs x q ++ tail) →
      AreJoined k joint (way_up top bs x q ++ tail) → Twos tail → Twos (way_up top bs x q ++ tail)
  up_twos top bs x root tail h o j twos = twos
  up_twos top (branch p i inner a b outer sub rest) x (below q) tail h o j twos =
      subst Twos same (up_twos outer sub x q (joined outer b a ∷ joined inner i p ∷ tail) h.3
      (subst Own (sym same) o) (subst (AreJoined k joint) (sym same) j) pair)
    where
      same : way_up outer sub x q ++ joined outer b a ∷ joined inner i p ∷ tail
          ≡ (way_up outer sub x q ++ joined outer b a ∷ joined inner i p ∷ []) ++ tail
      same = assoc (way_up outer sub x q)
        where
          assoc : (xs : List Side) → xs ++ joined outer b a ∷ joined inner i p ∷ tail
              ≡ (xs ++ joined outer b a ∷ joined inner i p ∷ []) ++ tail
          assoc [] = refl
          assoc (y ∷ xs) = ap (λ ys. y ∷ ys) (assoc xs)

      last : (xs : List Side) → Own (xs ++ joined outer b a ∷ joined inner i p ∷ tail) →
          AreJoined k joint (xs ++ joined outer b a ∷ joined inner i p ∷ tail) →
          has inner i × (joint (k.top b) ≡ (b, a))
      last [] o j = (o.1.0, j.0)
      last (y ∷ xs) o j = last xs o.1 j.1

      pair : Twos (joined outer b a ∷ joined inner i p ∷ tail)
      pair =
          let l = last (way_up outer sub x q) (subst Own (sym same) o)
          (subst (AreJoined k joint) (sym same) j) in
          two b a l.1 (h.2.1, h.2.0) (based_at Outer outer b b h.1 h.1.at.holds)
          (based_at Inner inner a i h.0.in_tree l.0) twos
  up_twos top (branch p i inner a b outer sub rest) x (beside q) tail h o j twos =
      up_twos top rest x q tail h.4 o j twos

  -- down a way, each inner set to the outer one below it
  down_head : (top : Side) (bs : Branches) (x : Side) (q : IsOuter top bs x) (u w : ℕ)
      (tail : List Side) →
      (c : ℕ) × (d : ℕ) × (way_down top bs x q ++ joined x u w ∷ tail
      ≡ joined top c d ∷ all_behind (way_down top bs x q ++ joined x u w ∷ tail))
  down_head top bs x root u w tail = (u, w, refl)
  down_head top (branch p i inner a b outer sub rest) x (below q) u w tail = (p, i, refl)
  down_head top (branch p i inner a b outer sub rest) x (beside q) u w tail =
      down_head top rest x q u w tail

  down_twos : (top : Side) (bs : Branches) (x : Side) (q : IsOuter top bs x) (u w : ℕ)
      (tail : List Side) → AreBranches k number r bs →
      Own (way_down top bs x q ++ joined x u w ∷ tail) →
      AreJoined k joint (way_down top bs x q ++ joined x u w ∷ tail) → Twos tail →
      Twos (all_behind (way_down top bs x q ++ joined x u w ∷ tail))
  down_twos top bs x root u w tail h o j twos = twos
  down_twos top (branch p i inner a b outer sub rest) x (below q) u w tail h o j twos =
      let f = down_head outer sub x q u w tail in
      let below_here = down_twos outer sub x q u w tail h.3 o.1.1 j.1.1 twos in
      let own_head : has outer f.0 = (subst Own f.2 o.1.1).0 in
      subst (λ xs. Twos (joined inner a b ∷ xs)) (sym f.2)
      (two a b j.1.0 h.2 (based_at Inner inner a a h.0.in_tree h.0.in_tree.at.holds)
      (based_at Outer outer b f.0 h.1 own_head) below_here)
  down_twos top (branch p i inner a b outer sub rest) x (beside q) u w tail h o j twos =
      down_twos top rest x q u w tail h.4 o j twos

  in_one : (v : ℕ) → has (as_one ss) v → is_in (side_members ss) v ≡ true
  in_one v i = ap (λ xs. is_in xs v) (sym (members_ring ss)) ∙ i

  one_has : (v : ℕ) → is_in (side_members ss) v ≡ true → has (as_one ss) v
  one_has v i = ap (λ xs. is_in xs v) (members_ring ss) ∙ i

  -- the ring as one set, where it begins with the set `top`
  new_set : (top : Side) (z : ℕ) → IsInTree k number r Outer top z → (c d : ℕ) →
      ss ≡ joined top c d ∷ all_behind ss → Twos (all_behind ss) → AreJoined k joint ss →
      IsInTree k' number' r Outer (as_one ss) z
  new_set top z there c d whole twos j = record {
    name = set;
    at = record {
      set = ring ss free.name refl
          (subst (λ xs. AreChildren k.vertices k'.children joint number' xs ss)
          (sym (put_there k.children set names)) (children_shown ss each own j));
      numbered = sym (put_there number set (pos 0));
      tops = λ v i. ap (λ b. cond b set (k.top v)) (in_named ss each own v (in_one v i));
      only = λ v low e. back v low (is_in names (k.top v)) refl e;
      based = of_ring [] (k.top c) (names_of k (all_behind ss)) free.name
          (put_there k.children set names ∙ ap (names_of k) whole)
          (put_there k.base set (k.base (first_of names)) ∙ ap k.base first
          ∙ base_is k.vertices k.children k.joint k.base k.mate there.name z there.at.based)
          (based_at Outer top z c there own_top)
          (subst (λ xs. AreTwos k.vertices k'.children joint k'.base k.mate xs)
          (sym (no_more (names_of k (all_behind ss)))) twos);
      holds = one_has z (subst (λ xs. is_in (side_members xs) z ≡ true) (sym whole)
          (is_in-append (members top.body) (side_members (all_behind ss)) z
          ∙ ap (λ b. b || is_in (side_members (all_behind ss)) z) there.at.holds));
      marked = put_there k.mark set Outer;
    };
    labelled = put_there k.label set (k.label (first_of names)) ∙ ap k.label first ∙ there.labelled;
  }
    where
      own_top : has top c
      own_top = (subst Own whole own).0

      first : first_of names ≡ there.name
      first = ap (λ xs. first_of (names_of k xs)) whole ∙ there.at.tops c own_top

      no_more : (xs : List ℕ) → xs ++ [] ≡ xs
      no_more [] = refl
      no_more (x ∷ xs) = ap (λ ys. x ∷ ys) (no_more xs)

      back : (v : ℕ) → v < k.vertices → (b : Bool) → is_in names (k.top v) ≡ b →
          cond (is_in names (k.top v)) set (k.top v) ≡ set → has (as_one ss) v
      back v low true e same = one_has v (named_in ss each own v low e)
      back v low false e same =
          absurd (free.unused v low (sym (ap (λ b. cond b set (k.top v)) e) ∙ same))

  -- ---- everything beside the ring
  pub outside_left : (xs ys : List Side) → Outside (xs ++ ys) → Outside xs
  outside_left xs ys out v m = out v (in_left xs ys v m)

  pub outside_right : (xs ys : List Side) → Outside (xs ++ ys) → Outside ys
  outside_right xs ys out v m = out v (in_right xs ys v m)

  outside_one : (x : Side) (xs : List Side) → Outside (x ∷ xs) → (v : ℕ) → has x v →
      is_in (side_members ss) v ≡ false
  outside_one x xs out v m = out v (in_first x xs v m)

  outside_rest : (x : Side) (xs : List Side) → Outside (x ∷ xs) → Outside xs
  outside_rest x xs out v m = out v (in_later x xs v m)

  branches_stay : (t : ℕ) (bs : Branches) → AreBranches k number t bs →
      Outside (branch_items bs) → AreBranches k' number' t bs
  branches_stay = branches_beside k k' number number' (side_members ss) beside_at label_beside
      (λ m s x v out h. refl) (λ u w p. p) (λ u e. e)

  pub trees_stay : (ts : List Tree) → AreTrees k number ts → Outside (tree_items ts) →
      AreTrees k' number' ts
  trees_stay = trees_beside k k' number number' (side_members ss) beside_at label_beside
      (λ m s x v out h. refl) (λ u w p. p) (λ u e. e)

  pub pairs_stay : (ps : List Mate) → ArePaired k number ps → Outside (mate_items ps) →
      ArePaired k' number' ps
  pairs_stay = pairs_beside k k' number number' (side_members ss) beside_at label_beside
      (λ m s x v out h. refl) (λ u w p. p) (λ u e. e)

  -- ---- the ring in its tree
  own_split : (xs ys : List Side) → Own (xs ++ ys) → Own ys
  own_split [] ys o = o
  own_split (x ∷ xs) ys o = own_split xs ys o.1

  joined_split : (xs ys : List Side) → AreJoined k joint (xs ++ ys) → AreJoined k joint ys
  joined_split [] ys j = j
  joined_split (x ∷ xs) ys j = joined_split xs ys j.1

  no_tail : (xs : List Side) → xs ++ [] ≡ xs
  no_tail [] = refl
  no_tail (x ∷ xs) = ap (λ ys. x ∷ ys) (no_tail xs)

  at_ring : (top : Side) (z : ℕ) (bs : Branches) (x : Side) (p : IsOuter top bs x) (y : Side)
      (q : IsOuter top bs y) (u w : ℕ) → ss ≡ ring_at top bs x p y q u w →
      IsInTree k number r Outer top z →
      AreBranches k number r bs → AreJoined k joint ss → IsInTree k' number' r Outer (as_one ss) z
  at_ring top z bs x p y q u w e there h j =
      let o' : Own (ring_at top bs x p y q u w) = subst Own e own in
      let j' : AreJoined k joint (ring_at top bs x p y q u w) = subst (AreJoined k joint) e j in
      let o_up = (own_split (way_down top bs x p) (joined x u w ∷ way_up top bs y q) o').1 in
      let j_up = (joined_split (way_down top bs x p) (joined x u w ∷ way_up top bs y q) j').1 in
      let n = no_tail (way_up top bs y q) in
      let up = subst Twos n (up_twos top bs y q [] h (subst Own (sym n) o_up)
      (subst (AreJoined k joint) (sym n) j_up) no_two) in
      let f = down_head top bs x p u w (way_up top bs y q) in
      new_set top z there f.0 f.1 (subst (λ xs. xs ≡ joined top f.0 f.1 ∷ all_behind xs)
      (sym e) f.2)
      (subst (λ xs. Twos (all_behind xs)) (sym e) (down_twos top bs x p u w
      (way_up top bs y q) h o' j' up)) j

  pub closed_shown : (top : Side) (z : ℕ) (bs : Branches) (x y : Side) (places : AreTwo top bs x y)
      (sense : Sense) (u w : ℕ) → ss ≡ ring_between top bs x y places sense u w →
      IsInTree k number r Outer top z → AreBranches k number r bs →
      Outside (beside_items top bs x y places) → AreJoined k joint ss →
      IsInTree k' number' r Outer (top_with top bs x y places
      (as_one ss)) z × AreBranches k' number' r (branches_with top bs x y places (as_one ss))
  closed_shown top z leaf x y places sense u w e there h out j = elim places [ ]
  closed_shown top z (branch o i inner a b outer sub rest) x y
      (split p q) to_first u w e there h out j = (
        at_ring top z (branch o i inner a b outer sub rest) x (below p) y
            (beside q) u w e there h j,
        branches_stay r (all_on (off_way top rest y q) (off_way outer sub x p))
            (all_on_shown k number r (off_way top rest y q) (off_way outer sub x p)
            (off_shown k number r top rest y q h.4) (off_shown k number r outer sub x p h.3)) out,
      )
  closed_shown top z (branch o i inner a b outer sub rest) x y
      (split p q) to_second u w e there h out j = (
        at_ring top z (branch o i inner a b outer sub rest) y (beside q) x
            (below p) w u e there h j,
        branches_stay r (all_on (off_way top rest y q) (off_way outer sub x p))
            (all_on_shown k number r (off_way top rest y q) (off_way outer sub x p)
            (off_shown k number r top rest y q h.4) (off_shown k number r outer sub x p h.3)) out,
      )
  closed_shown top z (branch o i inner a b outer sub rest) x y
      (both_below c) sense u w e there h out j =
      let later = outside_rest inner (beside_items outer sub x y c ++ branch_items rest)
      (outside_rest top (inner ∷ (beside_items outer sub x y c ++ branch_items rest)) out) in
      let deeper = closed_shown outer b sub x y c sense u w e h.1 h.3
      (outside_left (beside_items outer sub x y c) (branch_items rest) later) j in (
        beside_in r Outer top z
            (outside_one top (inner ∷
            (beside_items outer sub x y c ++ branch_items rest)) out z there.at.holds) there,
        (
          beside_linked r o i inner a (outside_one inner
              (beside_items outer sub x y c ++ branch_items rest)
              (outside_rest top (inner ∷
              (beside_items outer sub x y c ++ branch_items rest)) out) a h.0.in_tree.at.holds) h.0,
          deeper.0,
          h.2,
          deeper.1,
          branches_stay r rest h.4 (outside_right (beside_items outer sub x y c)
              (branch_items rest) later),
        ),
      )
  closed_shown top z (branch o i inner a b outer sub rest) x y
      (both_beside c) sense u w e there h out j =
      let later = outside_rest outer (branch_items sub ++ beside_items top rest x y c)
      (outside_rest inner (outer ∷ (branch_items sub ++ beside_items top rest x y c)) out) in
      let other = closed_shown top z rest x y c sense u w e there h.4
      (outside_right (branch_items sub) (beside_items top rest x y c) later) j in (
        other.0,
        (
          beside_linked r o i inner a (outside_one inner
              (outer ∷ (branch_items sub ++ beside_items top rest x y c)) out a
              h.0.in_tree.at.holds) h.0,
          beside_in r Outer outer b
              (outside_one outer (branch_items sub ++ beside_items top rest x y c)
              (outside_rest inner (outer ∷
              (branch_items sub ++ beside_items top rest x y c)) out) b h.1.at.holds) h.1,
          h.2,
          branches_stay r sub h.3 (outside_left (branch_items sub)
              (beside_items top rest x y c) later),
          other.1,
        ),
      )
