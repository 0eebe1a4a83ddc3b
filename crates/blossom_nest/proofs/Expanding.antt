-- A set whose children become outermost.
use Rattle.std.proofs.Common.{◌≡◌, ◌≢◌, ℕ, ◌+◌, ◌-◌, ◌/◌, ◌<◌, ◌≤◌, true, false, cond, List, [], ◌∷◌, ◌++◌, length, ⊎_elim, refl, sym, ap, ◌∙◌, subst, arith}
use Rattle.std.proofs.lemmas.Bool.{cases_eq, false≢true}
use Rattle.std.proofs.Math.ListN.{length-set}
use Rattle.std.specs.List.{AllByRecursion}
use Rattle.graph_model.specs.Graph.{is_in}
use Rattle.graph_model.proofs.Members.{is_in_first}
use Rattle.link_lists.specs.Lists.{Lists, AreDisjoint, IsApart, list_at, with_list}
use Rattle.link_lists.proofs.Chained.{count_le}
use Rattle.blossom_nest.specs.Nests.{IsExpanded, IsName, IsNest, IsOutermost, IsRing, LiesIn, Nested, Rises, children_of, outermost, parent_of}
use Rattle.blossom_nest.specs.Kept.{IsChildAbove, IsKept, Leads, at, shown}
use Rattle.blossom_nest.proofs.Lists.{apart_more, chosen, decide, each_of, in_back, in_either, in_front, in_lacks, is_false, left_over, only_one, put_here, put_other}
use Rattle.blossom_nest.proofs.Rising.{avoids, kept_past, leads, risen}

module _ (n : ℕ) (lists : Lists) (parent top unused : List ℕ) (capacity : ℕ) (r : IsKept n
    lists parent top unused capacity) (set : ℕ) (name : IsName (shown n lists.lists parent top) set)
    (outer : IsOutermost (shown n lists.lists parent top) set) where
  abbrev pub nest : Nested
  nest = shown n lists.lists parent top

  abbrev pub place : ℕ
  place = set - n

  pub place_low : place < n / 2
  place_low = let a = name.from in let b = name.below in omega (arith, a, b)

  pub in_lists : place < length lists.lists
  in_lists = let len = r.nest.children_len in let low = place_low in omega (arith, len, low)

  set_low : set < n + n / 2
  set_low = name.below

  parent_low : (c : ℕ) → c < length parent → at parent c ≢ n + n / 2 → at parent c < length parent
  parent_low c low d = let len = r.nest.parent_len in let k =
      r.nest.parents c (omega (arith, low, len)) in let up = k.1 in omega (arith, up, d, len)

  -- the way up from a vertex of the set
  pub way_up : (v : ℕ) → v < length top → at top v ≡ set → Leads parent v set
  way_up v low e =
      let tops = r.nest.top_len in
      let len = r.nest.parent_len in
      let from = name.from in
      let vn : v < n = omega (arith, low, tops) in
      let way = r.nest.inside v vn in
      leads parent (n + n / 2) v way.0 set (omega (arith, vn, len)) (λ k. absurd (omega (
        arith,
        k,
        vn,
        from,
      ))) outer.alone parent_low (subst (Rises (at parent) (n + n / 2) v way.0) e way.1)

  not_unused : is_in unused place ≡ true → ⊥
  not_unused m = outer.stands name.from (r.empty place m).1

  -- there is room for one free place more
  pub room_left : length unused < capacity
  room_left =
      let low = place_low in
      let all : AllByRecursion (λ k. k < n / 2) (place ∷ unused) =
      (low, each_of (λ k. k < n / 2) unused (λ k m. (r.empty k m).0)) in
      let few = count_le (n / 2) (place ∷ unused) (
        in_lacks place unused not_unused,
        r.unused_apart,
      ) all in
      let roomy = r.roomy in
      omega (arith, few, roomy)

  module _ (lists' : Lists) (parent' top' : List ℕ) where
    abbrev pub nest' : Nested
    nest' = shown n lists'.lists parent' top'

    -- what was written
    pub record IsGiven : Type 0 where
      pub lists_are : lists' ≡ with_list lists place []
      pub disjoint : AreDisjoint lists'
      pub parent_len : length parent' ≡ length parent
      pub parent_is : (c : ℕ) → c < length parent →
          at parent' c ≡ cond (is_in (list_at lists place) c) (n + n / 2) (at parent c)
      pub top_len : length top' ≡ length top
      pub others : (v : ℕ) → v < length top → at top v ≢ set → at top' v ≡ at top v
      pub top_is : (v : ℕ) → v < length top → at top v ≡ set → IsChildAbove parent v set (at top' v)

    module _ (t : IsGiven) where
      here : (s : ℕ) → s ≡ set → children_of nest' s ≡ []
      here s e = ap (λ z. children_of nest' z) e ∙ ap (λ (ls : Lists). list_at ls place) t.lists_are
          ∙ put_here lists place [] in_lists

      other : (s : ℕ) → n ≤ s → s ≢ set → children_of nest' s ≡ children_of nest s
      other s low d = ap (λ (ls : Lists). list_at ls (s - n)) t.lists_are ∙ put_other lists place (s
          - n) [] (λ e. let from = name.from in d (omega (arith, e, low, from)))

      case_set : (s : ℕ) (G : Type 0) → (s ≡ set → G) → (s ≢ set → G) → G
      case_set s G same d = ⊎_elim same d (cases_eq s set)

      named : (s : ℕ) → IsName nest' s → IsName nest s
      named s nm = record { from = nm.from; below = nm.below }

      child : (c : ℕ) → is_in (children_of nest set) c ≡ true → (c < n + n / 2)
          × (parent_of nest c ≡ set)
      child c m = r.nest.listed set c name m

      freed : (c : ℕ) → is_in (children_of nest set) c ≡ true → parent_of nest' c ≡ n + n / 2
      freed c m = let low = (child c m).0 in
          let len = r.nest.parent_len in t.parent_is c (omega (arith, low, len))
          ∙ chosen (is_in (children_of nest set) c) (n + n / 2) (at parent c) m

      kept : (c : ℕ) → c < n + n / 2 → is_in (children_of nest set) c ≡ false → parent_of nest' c
          ≡ parent_of nest c
      kept c low m = let len = r.nest.parent_len in t.parent_is c (omega (arith, low, len))
          ∙ left_over (is_in (children_of nest set) c) (n + n / 2) (at parent c) m

      -- what has another parent, or none, is no child
      no_child : (c : ℕ) → parent_of nest c ≢ set → is_in (children_of nest set) c ≡ false
      no_child c d = is_false (is_in (children_of nest set) c) (λ m. d (child c m).1)

      alone_still : (c : ℕ) → c < n + n / 2 → parent_of nest c ≡ n + n / 2 → parent_of nest' c
          ≡ n + n / 2
      alone_still c low e = decide (is_in (children_of nest set) c) (parent_of nest' c
          ≡ n + n / 2) (freed c) (λ m. kept c low m ∙ e)

      low_vertex : (v : ℕ) → v < n → v < length top
      low_vertex v low = let len = r.nest.top_len in omega (arith, low, len)

      child_top : (v : ℕ) → v < n → outermost nest v ≡ set →
          is_in (children_of nest set) (outermost nest' v) ≡ true
      child_top v low e =
          let k = t.top_is v (low_vertex v low) e in
          let below = k.low in
          let len = r.nest.parent_len in
          r.nest.found set (outermost nest' v) name (omega (arith, below, len)) k.is_child

      top_outer : (v : ℕ) → v < n → IsOutermost nest' (outermost nest' v)
      top_outer v low = case_set (outermost nest v) (IsOutermost nest' (outermost nest' v))
          (λ e.
          let m = child_top v low e in
          let c = outermost nest' v in
          let k = child c m in
          let not_set : c ≢ set = λ z. let a = outer.alone in
          let p = ap (λ y. parent_of nest y) z in let q = k.1 in let b = set_low in
          absurd (omega (arith, a, p, q, b)) in
          record {
            below = k.0;
            alone = freed c m;
            stands = λ from none.
                let free = r.nest.free c (record { from = from; below = k.0 })
                (sym (other c from not_set) ∙ none) in
                let q = k.1 in
                let b = set_low in
                absurd (omega (arith, free, q, b));
          })
          (λ d.
          let o = r.nest.tops v low in
          subst (IsOutermost nest') (sym (t.others v (low_vertex v low) d)) (record {
            below = o.below;
            alone = alone_still (outermost nest v) o.below o.alone;
            stands = λ from none. o.stands from (sym (other (outermost nest v) from d) ∙ none);
          }))

      top_way : (v : ℕ) → v < n → LiesIn nest' v (outermost nest' v)
      top_way v low = case_set (outermost nest v) (LiesIn nest' v (outermost nest' v))
          (λ e.
          let k = t.top_is v (low_vertex v low) e in
          let below = k.low in
          let len = r.nest.parent_len in (
            k.way,
            risen parent (parent_of nest') (n + n / 2) set v k.way (outermost nest' v) (omega
                (arith, below, len)) len k.short_of (λ c cl d. kept c cl (no_child c d)) k.climbs,
          ))
          (λ d.
          let way = r.nest.inside v low in
          let past = avoids (parent_of nest) (n + n / 2) set v way.0 (outermost nest v) outer.alone
          d way.1 in
          subst (LiesIn nest' v) (sym (t.others v (low_vertex v low) d)) (
            way.0,
            kept_past (parent_of nest) (n + n / 2) (parent_of nest') (n + n / 2) set v way.0
                (outermost nest v) (omega (arith, low)) past
                (λ c cl x y. let k = r.nest.parents c cl in let up = k.1 in
                (omega (arith, up, x), kept c cl (no_child c y))) way.1,
          ))

      pub expanded_nest : IsNest nest'
      expanded_nest = record {
        few = r.nest.few;
        children_len = ap (λ (ls : Lists). length ls.lists) t.lists_are
            ∙ length-set lists.lists place [] ∙ r.nest.children_len;
        parent_len = t.parent_len ∙ r.nest.parent_len;
        top_len = t.top_len ∙ r.nest.top_len;
        parents = λ c low. decide (is_in (children_of nest set) c) ((n ≤ parent_of nest' c)
            × (parent_of nest' c ≤ n + n / 2))
            (λ m. let e = freed c m in (omega (arith, e), omega (arith, e)))
            (λ m. let e = kept c low m in let k = r.nest.parents c low in
            (omega (arith, e, k.0), omega (arith, e, k.1)));
        listed = λ s c nm m. case_set s ((c < n + n / 2) × (parent_of nest' c ≡ s))
            (λ e. absurd (false≢true (ap (λ xs. is_in xs c) (sym (here s e)) ∙ m)))
            (λ d. let k = r.nest.listed s c (named s nm) (ap (λ xs. is_in xs c) (sym (other s
            nm.from d)) ∙ m) in (k.0, kept c k.0 (no_child c (λ e. d (sym k.1 ∙ e))) ∙ k.1));
        found = λ s c nm low e.
            decide (is_in (children_of nest set) c) (is_in (children_of nest' s) c ≡ true)
            (λ m. let f = freed c m in let b = nm.below in absurd (omega (arith, f, e, b)))
            (λ m. let was = sym (kept c low m) ∙ e in
            case_set s (is_in (children_of nest' s) c ≡ true)
            (λ k. absurd (false≢true (sym m ∙ r.nest.found set c name low (was ∙ k))))
            (λ d. ap (λ xs. is_in xs c) (other s nm.from d)
            ∙ r.nest.found s c (named s nm) low was));
        apart = λ s nm. case_set s (IsApart (children_of nest' s)) (λ e. subst IsApart (sym (here s
            e)) tt) (λ d. subst IsApart (sym (other s nm.from d)) (r.nest.apart s (named s nm)));
        rings = λ s nm k. case_set s (IsRing (children_of nest' s)) (λ e.
            absurd (k (here s e))) (λ d. subst IsRing (sym (other s nm.from d))
            (r.nest.rings s (named s nm) (λ z. k (other s nm.from d ∙ z))));
        free = λ s nm e. case_set s (parent_of nest' s ≡ n + n / 2)
            (λ k. alone_still s nm.below (ap (λ z. parent_of nest z) k ∙ outer.alone))
            (λ d. alone_still s nm.below (r.nest.free s (named s nm) (sym (other s nm.from d)
            ∙ e)));
        tops = top_outer;
        inside = top_way;
      }

      pub expanded_kept : IsKept n lists' parent' top' (unused ++ place ∷ []) capacity
      expanded_kept = record {
        nest = expanded_nest;
        nodes = ap (λ (ls : Lists). ls.nodes) t.lists_are ∙ r.nodes;
        disjoint = t.disjoint;
        empty = λ k m. ⊎_elim
            (λ e. (
              subst (λ z. z < n / 2) (sym e) place_low,
              ap (list_at lists') e ∙ ap
                  (λ (ls : Lists). list_at ls place) t.lists_are ∙ put_here lists place [] in_lists,
            ))
            (λ d.
            let was = ⊎_elim (λ h. r.empty k h) (λ h. absurd (d (sym (only_one place k h))))
            (in_either unused (place ∷ []) k m) in (
              was.0,
              ap (λ (ls : Lists). list_at ls k) t.lists_are ∙ put_other lists place k [] d
                  ∙ was.1,
            ))
            (cases_eq k place);
        listed = λ k low e. ⊎_elim
            (λ h. in_back unused (place ∷ []) k (subst (λ z. is_in (place ∷ []) z ≡ true) (sym h)
            (is_in_first place [])))
            (λ d. in_front unused (place ∷ []) k (r.listed k low (sym (put_other lists place k [] d)
            ∙ ap (λ (ls : Lists). list_at ls k) (sym t.lists_are) ∙ e)))
            (cases_eq k place);
        unused_apart = apart_more unused place r.unused_apart (in_lacks place unused not_unused);
        roomy = r.roomy;
      }

      pub is_expanded : IsExpanded nest set nest'
      is_expanded = record {
        vertices = refl;
        children = ap (λ (ls : Lists). ls.lists) t.lists_are;
        parent = λ c low. let len = r.nest.parent_len in t.parent_is c (omega (arith, low, len));
        others = λ v low d. t.others v (low_vertex v low) d;
        top = child_top;
      }
