-- A ring that becomes a set.
use Rattle.std.proofs.Common.{◌≡◌, ◌≢◌, ℕ, zero, suc, ◌+◌, ◌-◌, ◌*◌, ◌/◌, ◌<◌, ◌≤◌, ◌==◌, true, false, cond, List, [], ◌∷◌, ◌++◌, length, slice_index_or, slice_set, ⊎_elim, refl, sym, ap, ◌∙◌, subst, arith, eq-eqb, length-append}
use Rattle.std.proofs.lemmas.Bool.{cases_eq, cases_lt, false≢true, ne_eqb}
use Rattle.std.proofs.Math.ListN.{get_or-eq_default, length-set}
use Rattle.std.specs.List.{AllByRecursion}
use Rattle.graph_model.specs.Graph.{is_in}
use Rattle.graph_model.proofs.Members.{is_in_first}
use Rattle.link_lists.specs.Lists.{Lists, AreDisjoint, IsApart, IsFree, Lacks, list_at, with_list}
use Rattle.link_lists.proofs.Apart.{all_append, apart_joined}
use Rattle.link_lists.proofs.Chained.{count_le}
use Rattle.blossom_nest.specs.Nests.{IsName, IsNest, IsOutermost, IsRing, IsShrunk, LiesIn, Nested, Rises, children_of, outermost, parent_of}
use Rattle.blossom_nest.specs.Kept.{IsKept, at, shown}
use Rattle.blossom_nest.proofs.Lists.{apart_less, chosen, decide, each_of, in_either, in_lacks, is_false, in_back, in_more, lacks_in, left_over, member_of, not_both, put_here, put_other}
use Rattle.blossom_nest.proofs.Rising.{kept_way, rises_more}

-- ---- as long as there is a ring of outermost sets, some name is free
abbrev all_lists : Lists → ℕ → ℕ → List ℕ
all_lists s a zero = []
all_lists s a (suc k) = list_at s a ++ all_lists s (a + 1) k

in_all_lists : (s : Lists) (a k v : ℕ) → is_in (all_lists s a k) v ≡ true → (l : ℕ) × (a ≤ l)
    × (l < a + k) × (is_in (list_at s l) v ≡ true)
in_all_lists s a zero v m = absurd (false≢true m)
in_all_lists s a (suc k) v m = ⊎_elim
    (λ h. (a, omega arith, omega arith, h))
    (λ h. let r = in_all_lists s (a + 1) k v h in (
      r.0,
      omega (arith, r.1),
      omega (arith, r.2),
      r.3,
    ))
    (in_either (list_at s a) (all_lists s (a + 1) k) v m)

apart_lists : (s : Lists) → AreDisjoint s → (a k : ℕ) → IsApart (all_lists s a k)
apart_lists s d a zero = tt
apart_lists s d a (suc k) = apart_joined (list_at s a) (all_lists s (a + 1) k) (d.orderly.apart a)
    (apart_lists s d (a + 1) k)
    (each_of (λ v. Lacks v (list_at s a)) (all_lists s (a + 1) k) (λ v m.
    let r = in_all_lists s (a + 1) k v m in
    in_lacks v (list_at s a) (λ h. let same = d.one a r.0 v h r.3 in
    absurd (omega (arith, same, r.1)))))

long_lists : (s : Lists) (a k : ℕ) → ((l : ℕ) → a ≤ l → l < a + k → 3 ≤ length (list_at s l)) →
    3 * k ≤ length (all_lists s a k)
long_lists s a zero h = omega arith
long_lists s a (suc k) h =
    let here = h a (omega arith) (omega arith) in
    let rest = long_lists s (a + 1) k (λ l low high.
    h l (omega (arith, low)) (omega (arith, high))) in
    let both = length-append (list_at s a) (all_lists s (a + 1) k) in
    omega (arith, here, rest, both)

module _ (n : ℕ) (lists : Lists) (parent top unused : List ℕ) (capacity : ℕ)
    (r : IsKept n lists parent top unused capacity) where
  abbrev pub nest : Nested
  nest = shown n lists.lists parent top

  -- the name at a place
  pub name_at : (k : ℕ) → k < n / 2 → IsName nest (n + k)
  name_at k h = record { from = omega arith; below = omega (arith, h) }

  pub list_of : (k : ℕ) → children_of nest (n + k) ≡ list_at lists k
  list_of k = let e : n + k - n ≡ k = omega arith in ap (list_at lists) e

  -- an outermost set is no child
  pub no_child : (set : ℕ) → IsOutermost nest set → IsFree lists set
  no_child set o l = is_false (is_in (list_at lists l) set) (λ m. ⊎_elim
      (λ h. let k = r.nest.listed (n + l) set (name_at l h) (ap (λ xs. is_in xs set) (list_of l)
      ∙ m) in let e = k.1 in let f = o.alone in absurd (omega (arith, h, e, f)))
      (λ h. let low = r.nest.children_len in
      absurd (false≢true (ap (λ xs. is_in xs set) (sym (past l h)) ∙ m)))
      (cases_lt l (n / 2)))
    where
      past : (l : ℕ) → n / 2 ≤ l → list_at lists l ≡ []
      past l h = get_or-eq_default lists.lists [] (let len = r.nest.children_len in
          omega (arith, h, len))

  pub never_full : (ring : List ℕ) → IsRing ring → IsApart ring →
      AllByRecursion (IsOutermost nest) ring → unused ≡ [] → ⊥
  never_full ring ir ia io e =
      let long : (l : ℕ) → 0 ≤ l → l < 0 + n / 2 → 3 ≤ length (list_at lists l) = λ l a low.
      let lt : l < n / 2 = omega (arith, low) in
      subst (λ xs. 3 ≤ length xs) (list_of l)
      (r.nest.rings (n + l) (name_at l lt) (λ k. false≢true (ap (λ xs. is_in xs l) (sym e)
      ∙ r.listed l lt (sym (list_of l) ∙ k)))).three in
      let rest = all_lists lists 0 (n / 2) in
      let across : AllByRecursion (λ v. Lacks v ring) rest =
      each_of (λ v. Lacks v ring) rest (λ v m.
      let k = in_all_lists lists 0 (n / 2) v m in
      in_lacks v ring (λ h. not_both (is_in (list_at lists k.0) v) k.3
      (no_child v (member_of (IsOutermost nest) ring io v h) k.0))) in
      let apart = apart_joined ring rest ia (apart_lists lists r.disjoint 0 (n / 2)) across in
      let low_rest : AllByRecursion (λ v. v < n + n / 2) rest =
      each_of (λ v. v < n + n / 2) rest (λ v m.
      let k = in_all_lists lists 0 (n / 2) v m in
      let b = r.disjoint.orderly.below k.0 v k.3 in
      let same = r.nodes in
      omega (arith, b, same)) in
      let low_ring : AllByRecursion (λ v. v < n + n / 2) ring = each_of (λ v. v < n + n / 2) ring
      (λ v m. (member_of (IsOutermost nest) ring io v m).below) in
      let few = count_le (n + n / 2) (ring
      ++ rest) apart (all_append (λ v. v < n + n / 2) ring rest low_ring low_rest) in
      let both = length-append ring rest in
      let three = ir.three in
      absurd (omega (arith, few, both, three, long_lists lists 0 (n / 2) long))

  -- the place that was free
  pub popped_low : (rest : List ℕ) (place : ℕ) → unused ≡ rest ++ place ∷ [] → place < n / 2
  popped_low rest place e = (r.empty place (ap (λ xs. is_in xs place) e
      ∙ in_back rest (place ∷ []) place (is_in_first place []))).0

  pub free_ring : (ring : List ℕ) → AllByRecursion (IsOutermost nest) ring →
      AllByRecursion (IsFree lists) ring
  free_ring ring io =
      each_of (IsFree lists) ring (λ v m. no_child v (member_of (IsOutermost nest) ring io v m))

  pub low_nodes : (ring : List ℕ) → AllByRecursion (IsOutermost nest) ring →
      AllByRecursion (λ v. v < lists.nodes) ring
  low_nodes ring io = each_of (λ v. v < lists.nodes) ring (λ v m. let k =
      (member_of (IsOutermost nest) ring io v m).below in let e = r.nodes in omega (arith, k, e))

  -- ---- the ring at a free place
  module _ (rest : List ℕ) (place : ℕ) (ring : List ℕ) (lists' : Lists)
      (parent' top' : List ℕ) where
    abbrev pub set : ℕ
    set = n + place

    abbrev pub nest' : Nested
    nest' = shown n lists'.lists parent' top'

    -- what was written
    pub record IsTaken : Type 0 where
      pub popped : unused ≡ rest ++ place ∷ []
      pub is_ring : IsRing ring
      pub ring_apart : IsApart ring
      pub outer : AllByRecursion (IsOutermost nest) ring
      pub lists_are : lists' ≡ with_list lists place ring
      pub disjoint : AreDisjoint lists'
      pub parent_len : length parent' ≡ length parent
      pub parent_is : (c : ℕ) → c < length parent →
          at parent' c ≡ cond (is_in ring c) set (at parent c)
      pub top_len : length top' ≡ length top
      pub top_is : (v : ℕ) → v < length top →
          at top' v ≡ cond (at parent' (at top v) == set) set (at top v)

    module _ (t : IsTaken) where
      in_unused : is_in unused place ≡ true
      in_unused = ap (λ xs. is_in xs place) t.popped
          ∙ in_back rest (place ∷ []) place (is_in_first place [])

      pub place_low : place < n / 2
      place_low = (r.empty place in_unused).0

      was_empty : list_at lists place ≡ []
      was_empty = (r.empty place in_unused).1

      name : IsName nest set
      name = name_at place place_low

      set_empty : children_of nest set ≡ []
      set_empty = list_of place ∙ was_empty

      low_set : set < n + n / 2
      low_set = name.below

      in_lists : place < length lists.lists
      in_lists = let len = r.nest.children_len in let low = place_low in omega (arith, len, low)

      here : (s : ℕ) → s ≡ set → children_of nest' s ≡ ring
      here s e =
          ap (λ z. children_of nest' z) e ∙ ap (λ k. slice_index_or lists'.lists k []) (omega arith)
          ∙ ap (λ (ls : Lists). list_at ls place) t.lists_are ∙ put_here lists place ring in_lists

      other : (s : ℕ) → n ≤ s → s ≢ set → children_of nest' s ≡ children_of nest s
      other s from d = ap (λ (ls : Lists). list_at ls (s - n)) t.lists_are
          ∙ put_other lists place (s - n) ring (λ e. d (omega (arith, e, from)))

      -- the sets of the ring
      outer_of : (c : ℕ) → is_in ring c ≡ true → IsOutermost nest c
      outer_of c m = member_of (IsOutermost nest) ring t.outer c m

      not_empty : ring ≡ [] → ⊥
      not_empty e = let three = t.is_ring.three in let none : length ring ≡ 0 =
          ap (λ xs. length xs) e in absurd (omega (arith, three, none))

      -- a name that isn't taken isn't in the ring
      unringed : (s : ℕ) → n ≤ s → children_of nest s ≡ [] → is_in ring s ≡ false
      unringed s from e = is_false (is_in ring s) (λ m. (outer_of s m).stands from e)

      pub parent_in_ring : (c : ℕ) → is_in ring c ≡ true → parent_of nest' c ≡ set
      parent_in_ring c m = let low = (outer_of c m).below in let len = r.nest.parent_len in
          t.parent_is c (omega (arith, low, len)) ∙ chosen (is_in ring c) set (at parent c) m

      parent_same : (c : ℕ) → c < n + n / 2 → is_in ring c ≡ false → parent_of nest' c
          ≡ parent_of nest c
      parent_same c low m = let len = r.nest.parent_len in t.parent_is c (omega (arith, low, len))
          ∙ left_over (is_in ring c) set (at parent c) m

      set_alone : parent_of nest' set ≡ n + n / 2
      set_alone = parent_same set low_set (unringed set name.from set_empty)
          ∙ r.nest.free set name set_empty

      top_ring : (v : ℕ) → v < n → is_in ring (outermost nest v) ≡ true → outermost nest' v ≡ set
      top_ring v low m =
          let len = r.nest.top_len in
          t.top_is v (omega (arith, low, len)) ∙ chosen (at parent' (at top v) == set) set
          (at top v) (eq-eqb (at parent' (at top v)) set (parent_in_ring (at top v) m))

      top_same : (v : ℕ) → v < n → is_in ring (outermost nest v) ≡ false → outermost nest' v
          ≡ outermost nest v
      top_same v low m =
          let len = r.nest.top_len in
          let o = r.nest.tops v low in
          let alone : at parent' (at top v) ≡ n + n / 2 = parent_same (at top v) o.below m
          ∙ o.alone in
          let bound = low_set in
          t.top_is v (omega (arith, low, len))
          ∙ left_over (at parent' (at top v) == set) set (at top v)
          (ne_eqb (at parent' (at top v)) set (λ e. absurd (omega (arith, e, alone, bound))))

      -- a child was not in the ring
      child_same : (c p : ℕ) → p < n + n / 2 → parent_of nest c ≡ p → is_in ring c ≡ false
      child_same c p low e = is_false (is_in ring c) (λ m. let alone = (outer_of c m).alone in
          absurd (omega (arith, low, e, alone)))

      case_set : (s : ℕ) (G : Type 0) → (s ≡ set → G) → (s ≢ set → G) → G
      case_set s G same d = ⊎_elim same d (cases_eq s set)

      top_outer : (v : ℕ) → v < n → IsOutermost nest' (outermost nest' v)
      top_outer v low =
          decide (is_in ring (outermost nest v)) (IsOutermost nest' (outermost nest' v))
          (λ m. subst (IsOutermost nest') (sym (top_ring v low m)) (record {
            below = low_set;
            alone = set_alone;
            stands = λ h e. not_empty (sym (here set refl) ∙ e);
          }))
          (λ m.
          let o = r.nest.tops v low in
          let t0 = outermost nest v in
          subst (IsOutermost nest') (sym (top_same v low m)) (record {
            below = o.below;
            alone = parent_same t0 o.below m ∙ o.alone;
            stands = λ h e. case_set t0 ⊥ (λ k. not_empty (sym (here t0 k) ∙ e)) (λ d.
                o.stands h (sym (other t0 h d) ∙ e));
          }))

      way_same : (c : ℕ) → c < n + n / 2 → parent_of nest c ≢ n + n / 2 →
          (parent_of nest c < n + n / 2) × (parent_of nest' c ≡ parent_of nest c)
      way_same c low d =
          let k = r.nest.parents c low in
          let below : parent_of nest c < n + n / 2 = omega (arith, k.1, d) in
          (below, parent_same c low (child_same c (parent_of nest c) below refl))

      top_way : (v : ℕ) → v < n → LiesIn nest' v (outermost nest' v)
      top_way v low =
          let old = r.nest.inside v low in
          let way : Rises (parent_of nest') (n + n / 2) v old.0 (outermost nest v) =
          kept_way (parent_of nest) (n + n / 2) (parent_of nest') (n + n / 2) v old.0
          (outermost nest v) (omega (arith, low)) way_same old.1 in
          decide (is_in ring (outermost nest v)) (LiesIn nest' v (outermost nest' v))
          (λ m. subst (LiesIn nest' v) (sym (top_ring v low m)) (
            old.0 ++ set ∷ [],
            rises_more (parent_of nest') (n + n / 2) v old.0 (outermost nest v)
                set way (parent_in_ring (outermost nest v) m) (λ e. let b = low_set in
                absurd (omega (arith, b, e))),
          ))
          (λ m. subst (LiesIn nest' v) (sym (top_same v low m)) (old.0, way))

      named : (s : ℕ) → IsName nest' s → IsName nest s
      named s nm = record { from = nm.from; below = nm.below }

      pub shrunk_nest : IsNest nest'
      shrunk_nest = record {
        few = r.nest.few;
        children_len = ap (λ (ls : Lists). length ls.lists) t.lists_are
            ∙ length-set lists.lists place ring ∙ r.nest.children_len;
        parent_len = t.parent_len ∙ r.nest.parent_len;
        top_len = t.top_len ∙ r.nest.top_len;
        parents = λ c low. decide (is_in ring c) ((n ≤ parent_of nest' c)
            × (parent_of nest' c ≤ n + n / 2))
            (λ m. let e = parent_in_ring c m in let b = low_set in
            (omega (arith, e), omega (arith, e, b)))
            (λ m. let e = parent_same c low m in let k = r.nest.parents c low in
            (omega (arith, e, k.0), omega (arith, e, k.1)));
        listed = λ s c nm m. case_set s ((c < n + n / 2) × (parent_of nest' c ≡ s))
            (λ e. let k = ap (λ xs. is_in xs c) (sym (here s e)) ∙ m in
            ((outer_of c k).below, parent_in_ring c k ∙ sym e))
            (λ d. let k = r.nest.listed s c (named s nm) (ap (λ xs. is_in xs c) (sym (other s
            nm.from d)) ∙ m) in (k.0, parent_same c k.0 (child_same c s nm.below k.1) ∙ k.1));
        found = λ s c nm low e. decide (is_in ring c) (is_in (children_of nest' s) c ≡ true)
            (λ m. ap (λ xs. is_in xs c) (here s (sym e ∙ parent_in_ring c m)) ∙ m)
            (λ m. let was = sym (parent_same c low m) ∙ e in
            case_set s (is_in (children_of nest' s) c ≡ true)
            (λ k. absurd (false≢true (ap (λ xs. is_in xs c) (sym (ap (λ z. children_of nest z) k
            ∙ set_empty)) ∙ r.nest.found s c (named s nm) low was)))
            (λ d. ap (λ xs. is_in xs c) (other s nm.from d)
            ∙ r.nest.found s c (named s nm) low was));
        apart = λ s nm. case_set s (IsApart (children_of nest' s)) (λ e.
            subst IsApart (sym (here s e)) t.ring_apart) (λ d.
            subst IsApart (sym (other s nm.from d)) (r.nest.apart s (named s nm)));
        rings = λ s nm k. case_set s (IsRing (children_of nest' s)) (λ e.
            subst IsRing (sym (here s e)) t.is_ring) (λ d. subst IsRing (sym (other s nm.from d))
            (r.nest.rings s (named s nm) (λ z. k (other s nm.from d ∙ z))));
        free = λ s nm e. case_set s (parent_of nest' s ≡ n + n / 2)
            (λ k. absurd (not_empty (sym (here s k) ∙ e)))
            (λ d. let was = sym (other s nm.from d) ∙ e in
            parent_same s nm.below (unringed s nm.from was) ∙ r.nest.free s (named s nm) was);
        tops = top_outer;
        inside = top_way;
      }

      in_rest : (k : ℕ) → k ≢ place → is_in rest k ≡ is_in unused k
      in_rest k d = sym (in_more rest place k d) ∙ ap (λ xs. is_in xs k) (sym t.popped)

      pub shrunk_kept : IsKept n lists' parent' top' rest capacity
      shrunk_kept =
          let apart = apart_less rest place (subst IsApart t.popped r.unused_apart) in
          record {
            nest = shrunk_nest;
            nodes = ap (λ (ls : Lists). ls.nodes) t.lists_are ∙ r.nodes;
            disjoint = t.disjoint;
            empty = λ k m.
                let d : k ≢ place =
                λ e. lacks_in place rest apart.1 (subst (λ z. is_in rest z ≡ true) e m) in
                let was = r.empty k (sym (in_rest k d) ∙ m) in (
                  was.0,
                  ap (λ (ls : Lists). list_at ls k) t.lists_are
                      ∙ put_other lists place k ring d ∙ was.1,
                );
            listed = λ k low e.
                let d : k ≢ place = λ z. not_empty (sym (put_here lists place ring in_lists)
                ∙ ap (λ (ls : Lists). list_at ls place) (sym t.lists_are)
                ∙ ap (list_at lists') (sym z) ∙ e) in
                in_rest k d ∙ r.listed k low (sym (put_other lists place k ring d)
                ∙ ap (λ (ls : Lists). list_at ls k) (sym t.lists_are) ∙ e);
            unused_apart = apart.0;
            roomy = r.roomy;
          }

      pub is_shrunk : IsShrunk nest ring set nest'
      is_shrunk = record {
        vertices = refl;
        name = name;
        free = set_empty;
        children = let e : set - n ≡ place = omega arith in ap (λ (ls : Lists). ls.lists)
            t.lists_are ∙ ap (λ k. slice_set lists.lists k ring) (sym e);
        parent = λ c low. let len = r.nest.parent_len in t.parent_is c (omega (arith, low, len));
        top = λ v low. decide (is_in ring (outermost nest v)) (outermost nest' v
            ≡ cond (is_in ring (outermost nest v)) set (outermost nest v))
            (λ m. top_ring v low m
            ∙ sym (chosen (is_in ring (outermost nest v)) set (outermost nest v) m))
            (λ m. top_same v low m
            ∙ sym (left_over (is_in ring (outermost nest v)) set (outermost nest v) m));
      }

pub empty_of : (xs : List ℕ) → length xs ≡ 0 → xs ≡ []
empty_of [] e = refl
empty_of (x ∷ xs) e = absurd (omega (arith, e))
