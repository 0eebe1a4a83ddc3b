-- Where the ways up from two outer sets of a tree meet, and the ring that they close there.
use Rattle.std.proofs.Common.{◌≡◌, ℕ, ◌<◌, true, List, [], ◌∷◌, ◌++◌, map, reverse, refl, sym, ap, ◌∙◌, subst, append_assoc}
use Rattle.std.specs.Prelude.{ℤ}
use Rattle.std.proofs.lemmas.Bool.{false≢true}
use Rattle.std.proofs.lemmas.List.{map-append, reverse-append}
use Rattle.graph_model.specs.Graph.{is_in}
use Rattle.matching_model.specs.Matchings.{AreApart}
use Rattle.matching_model.specs.Blossoms.{Side, has, members, side_members}
use Rattle.matching_model.specs.Forests.{Branches, branch, IsOuter, root, below, beside, AreTwo, split, both_below, both_beside, Outer}
use Rattle.matching_model.proofs.Crossed.{apart_append}
use Rattle.matching_model.proofs.Slacks.{branch_items}
use Rattle.matching_laws.specs.Constructions.{Sense, to_first, to_second, joined, ring_at, ring_between, way_down, way_up}
use Rattle.matching_laws.proofs.Closing.{members_append}
use Rattle.shown_search.specs.Shown.{Kept, IsInTree, AreBranches}
use Rattle.shown_search.specs.Taken.{AreEnds, from_first}
use Rattle.shown_search.proofs.Beside.{in_first, in_later, in_left, in_right}
use Rattle.shown_rings.specs.Shrinking.{Own, names_of}
use Rattle.shown_matches.specs.Augmenting.{AreOn, way_vertices}
use Rattle.forest_laws.specs.Meeting.{OneMeetingLaw, StartApart}

no_start : (z : ℕ) (zs : List ℕ) → [] ≡ z ∷ zs → ⊥
no_start z zs e = subst IsEmpty e tt
  where
    IsEmpty : List ℕ → Type 0
    IsEmpty [] = Unit {0}
    IsEmpty (x ∷ xs) = ⊥

pub left_empty : (ys : List ℕ) → StartApart [] ys
left_empty ys z xs' ys' e f = no_start z xs' e

pub right_empty : (xs : List ℕ) → StartApart xs []
right_empty xs z xs' ys' e f = no_start z ys' f

head_of : ℕ → List ℕ → ℕ
head_of d [] = d
head_of d (x ∷ xs) = x

same_head : (x y : ℕ) (xs ys : List ℕ) → x ∷ xs ≡ y ∷ ys → x ≡ y
unfolding head_of
same_head x y xs ys e = ap (head_of 0) e

own_append : (xs ys : List Side) → Own xs → Own ys → Own (xs ++ ys)
own_append [] ys a b = b
own_append (x ∷ xs) ys a b = (a.0, own_append xs ys a.1 b)

module _ (k : Kept) (number : ℕ → ℤ) (r : ℕ) where
  -- the names below the top on the way down to a set
  abbrev pub downs : (top : Side) (bs : Branches) (x : Side) → IsOuter top bs x → ℕ → List ℕ
  downs top bs x root u = []
  downs top (branch o i inner a b outer sub rest) x (below q) u =
      k.top i ∷ map k.top (way_vertices outer sub x q u)
  downs top (branch o i inner a b outer sub rest) x (beside q) u = downs top rest x q u

  pub way_is : (top : Side) (z : ℕ) (bs : Branches) (x : Side) (q : IsOuter top bs x) (u : ℕ)
      (t : IsInTree k number r Outer top z) → AreBranches k number r bs → AreOn top bs x q u →
      map k.top (way_vertices top bs x q u) ≡ t.name ∷ downs top bs x q u
  way_is top z bs x root u t h on = ap (λ c. c ∷ []) (t.at.tops u on)
  way_is top z (branch o i inner a b outer sub rest) x (below q) u t h on =
      ap (λ c. c ∷ k.top i ∷ map k.top (way_vertices outer sub x q u)) (t.at.tops o on.0)
  way_is top z (branch o i inner a b outer sub rest) x (beside q) u t h on =
      way_is top z rest x q u t h.4 on

  names_append : (xs ys : List Side) → names_of k (xs ++ ys) ≡ names_of k xs ++ names_of k ys
  names_append xs ys = map-append (λ (s : Side). k.top s.out) xs ys

  down_names : (top : Side) (z : ℕ) (bs : Branches) (x : Side) (q : IsOuter top bs x) (u w : ℕ)
      (t : IsInTree k number r Outer top z) → AreBranches k number r bs → AreOn top bs x q u →
      names_of k (way_down top bs x q ++ joined x u w ∷ []) ≡ t.name ∷ downs top bs x q u
  down_names top z bs x root u w t h on = ap (λ c. c ∷ []) (t.at.tops u on)
  down_names top z (branch o i inner a b outer sub rest) x (below q) u w t h on =
      ap (λ c. c ∷ k.top a ∷ names_of k (way_down outer sub x q ++ joined x u w ∷ []))
      (t.at.tops o on.0)
      ∙ ap (λ c. t.name ∷ c ∷ names_of k (way_down outer sub x q ++ joined x u w ∷ []))
      (h.0.in_tree.at.tops a h.0.in_tree.at.holds ∙ sym (h.0.in_tree.at.tops i on.1))
      ∙ ap (λ cs. t.name ∷ k.top i ∷ cs) (down_names outer b sub x q u w h.1 h.3 on.2
      ∙ sym (way_is outer b sub x q u h.1 h.3 on.2))
  down_names top z (branch o i inner a b outer sub rest) x (beside q) u w t h on =
      down_names top z rest x q u w t h.4 on

  backwards : (c : ℕ) (cs : List ℕ) → reverse (c ∷ cs) ≡ reverse cs ++ c ∷ []
  backwards c cs = reverse-append (c ∷ []) cs

  up_names : (top : Side) (bs : Branches) (y : Side) (q : IsOuter top bs y) (w : ℕ) →
      AreBranches k number r bs → AreOn top bs y q w →
      names_of k (way_up top bs y q) ≡ reverse (downs top bs y q w)
  up_names top bs y root w h on = refl
  up_names top (branch o i inner a b outer sub rest) y (below q) w h on =
      names_append (way_up outer sub y q) (joined outer b a ∷ joined inner i o ∷ [])
      ∙ ap (λ cs. cs ++ k.top b ∷ k.top i ∷ []) (up_names outer sub y q w h.3 on.2)
      ∙ sym (append_assoc (reverse (downs outer sub y q w)) (k.top b ∷ []) (k.top i ∷ []))
      ∙ ap (λ cs. cs ++ k.top i ∷ []) (sym (backwards (k.top b) (downs outer sub y q w))
      ∙ ap reverse (ap (λ c. c ∷ downs outer sub y q w) (h.1.at.tops b h.1.at.holds)
      ∙ sym (way_is outer b sub y q w h.1 h.3 on.2)))
      ∙ sym (backwards (k.top i) (map k.top (way_vertices outer sub y q w)))
  up_names top (branch o i inner a b outer sub rest) y (beside q) w h on =
      up_names top rest y q w h.4 on

  ring_names : (top : Side) (z : ℕ) (bs : Branches) (x : Side) (p : IsOuter top bs x) (y : Side)
      (q : IsOuter top bs y) (u w : ℕ) (t : IsInTree k number r Outer top z) →
      AreBranches k number r bs → AreOn top bs x p u → AreOn top bs y q w →
      names_of k (ring_at top bs x p y q u w)
      ≡ t.name ∷ (downs top bs x p u ++ reverse (downs top bs y q w))
  ring_names top z bs x p y q u w t h on on' =
      ap (names_of k) (sym (append_assoc (way_down top bs x p) (joined x u w ∷ [])
      (way_up top bs y q)))
      ∙ names_append (way_down top bs x p ++ joined x u w ∷ []) (way_up top bs y q)
      ∙ ap (λ cs. cs ++ names_of k (way_up top bs y q)) (down_names top z bs x p u w t h on)
      ∙ ap (λ cs. (t.name ∷ downs top bs x p u) ++ cs) (up_names top bs y q w h on')

  -- each set of the ring has the vertex that joins it to the next
  down_own : (top : Side) (bs : Branches) (x : Side) (q : IsOuter top bs x) (u w : ℕ) →
      AreBranches k number r bs → AreOn top bs x q u →
      Own (way_down top bs x q ++ joined x u w ∷ [])
  down_own top bs x root u w h on = (on, tt)
  down_own top (branch o i inner a b outer sub rest) x (below q) u w h on =
      (on.0, (h.0.in_tree.at.holds, down_own outer sub x q u w h.3 on.2))
  down_own top (branch o i inner a b outer sub rest) x (beside q) u w h on =
      down_own top rest x q u w h.4 on

  up_own : (top : Side) (bs : Branches) (y : Side) (q : IsOuter top bs y) (w : ℕ) →
      AreBranches k number r bs → AreOn top bs y q w → Own (way_up top bs y q)
  up_own top bs y root w h on = tt
  up_own top (branch o i inner a b outer sub rest) y (below q) w h on =
      own_append (way_up outer sub y q) (joined outer b a ∷ joined inner i o ∷ [])
      (up_own outer sub y q w h.3 on.2) (h.1.at.holds, (on.1, tt))
  up_own top (branch o i inner a b outer sub rest) y (beside q) w h on =
      up_own top rest y q w h.4 on

  ring_own : (top : Side) (bs : Branches) (x : Side) (p : IsOuter top bs x) (y : Side)
      (q : IsOuter top bs y) (u w : ℕ) → AreBranches k number r bs → AreOn top bs x p u →
      AreOn top bs y q w → Own (ring_at top bs x p y q u w)
  ring_own top bs x p y q u w h on on' =
      subst Own (append_assoc (way_down top bs x p) (joined x u w ∷ []) (way_up top bs y q))
      (own_append (way_down top bs x p ++ joined x u w ∷ []) (way_up top bs y q)
      (down_own top bs x p u w h on) (up_own top bs y q w h on'))

  -- ---- where two ways part
  -- the first set below the top is inner, in the branches
  pub record Begins (bs : Branches) (name : ℕ) : Type 0 where
    pub vertex : ℕ
    pub inside : is_in (side_members (branch_items bs)) vertex ≡ true
    pub named : k.top vertex ≡ name

  begins : (top : Side) (bs : Branches) (x : Side) (q : IsOuter top bs x) (u c : ℕ)
      (cs : List ℕ) → AreOn top bs x q u → downs top bs x q u ≡ c ∷ cs → Begins bs c
  begins top bs x root u c cs on e = absurd (no_start c cs e)
  begins top (branch o i inner a b outer sub rest) x (below q) u c cs on e = record {
    vertex = i;
    inside = in_first inner (outer ∷ (branch_items sub ++ branch_items rest)) i on.1;
    named = same_head (k.top i) c (map k.top (way_vertices outer sub x q u)) cs e;
  }
  begins top (branch o i inner a b outer sub rest) x (beside q) u c cs on e =
      let later = begins top rest x q u c cs on e in
      record {
        vertex = later.vertex;
        inside = in_later inner (outer ∷ (branch_items sub ++ branch_items rest)) later.vertex
            (in_later outer (branch_items sub ++ branch_items rest) later.vertex
            (in_right (branch_items sub) (branch_items rest) later.vertex later.inside));
        named = later.named;
      }

  abbrev pub AreLow : Branches → Type 0
  AreLow bs = (v : ℕ) → is_in (side_members (branch_items bs)) v ≡ true → v < k.vertices

  -- a way into the first branch and one into later branches begin apart
  parts : (top : Side) (o i : ℕ) (inner : Side) (a b : ℕ) (outer : Side) (sub rest : Branches)
      (x y : Side) (p : IsOuter outer sub x) (q : IsOuter top rest y) (u w : ℕ) →
      AreBranches k number r (branch o i inner a b outer sub rest) → has inner i →
      AreOn top rest y q w → AreLow (branch o i inner a b outer sub rest) →
      AreApart (side_members (branch_items (branch o i inner a b outer sub rest))) →
      StartApart (k.top i ∷ map k.top (way_vertices outer sub x p u)) (downs top rest y q w)
  parts top o i inner a b outer sub rest x y p q u w h on on' low apart c xs ys e f =
      let later = begins top rest y q w c ys on' f in
      let behind = in_later outer (branch_items sub ++ branch_items rest) later.vertex
      (in_right (branch_items sub) (branch_items rest) later.vertex later.inside) in
      let all = in_later inner (outer ∷ (branch_items sub ++ branch_items rest)) later.vertex
      behind in
      let same = later.named
      ∙ sym (same_head (k.top i) c (map k.top (way_vertices outer sub x p u)) xs e)
      ∙ h.0.in_tree.at.tops i on in
      let here = h.0.in_tree.at.only later.vertex (low later.vertex all) same in
      false≢true (sym ((apart_append (members inner.body)
      (side_members (outer ∷ (branch_items sub ++ branch_items rest))) apart).2 later.vertex here)
      ∙ behind)

  module _ (inner outer : Side) (sub rest : Branches) where
    abbrev items : List Side
    items = inner ∷ outer ∷ (branch_items sub ++ branch_items rest)

    in_sub : (v : ℕ) → is_in (side_members (branch_items sub)) v ≡ true →
        is_in (side_members items) v ≡ true
    in_sub v m = in_later inner (outer ∷ (branch_items sub ++ branch_items rest)) v
        (in_later outer (branch_items sub ++ branch_items rest) v
        (in_left (branch_items sub) (branch_items rest) v m))

    in_rest : (v : ℕ) → is_in (side_members (branch_items rest)) v ≡ true →
        is_in (side_members items) v ≡ true
    in_rest v m = in_later inner (outer ∷ (branch_items sub ++ branch_items rest)) v
        (in_later outer (branch_items sub ++ branch_items rest) v
        (in_right (branch_items sub) (branch_items rest) v m))

    apart_parts : AreApart (side_members items) → AreApart (side_members (branch_items sub))
        × AreApart (side_members (branch_items rest))
    apart_parts apart =
        let behind = (apart_append (members inner.body)
        (side_members (outer ∷ (branch_items sub ++ branch_items rest))) apart).1 in
        let both = (apart_append (members outer.body)
        (side_members (branch_items sub ++ branch_items rest)) behind).1 in
        let cut = apart_append (side_members (branch_items sub)) (side_members (branch_items rest))
        (subst AreApart (members_append (branch_items sub) (branch_items rest)) both) in
        (cut.0, cut.1)

  abbrev pub ring_by : {top : Side} {bs : Branches} {x y : Side} → AreTwo top bs x y → Sense →
      ℕ → ℕ → List Side
  ring_by {top = top} {bs = bs} {x = x} {y = y} places sense u w =
      ring_between top bs x y places sense (from_first sense u w).0 (from_first sense u w).1

  -- two outer sets of a tree, with the ways down to them from the root, and the ring of their pair
  pub record Fork (top : Side) (bs : Branches) (u w : ℕ) (ways other : List ℕ) : Type 0 where
    pub first : Side
    pub second : Side
    pub places : AreTwo top bs first second
    pub sense : Sense
    pub ends : AreEnds sense first second u w
    pub above : List ℕ
    pub common : ℕ
    pub one : List ℕ
    pub two : List ℕ
    pub one_is : ways ≡ above ++ common ∷ one
    pub two_is : other ≡ above ++ common ∷ two
    pub apart : StartApart one two
    pub names : names_of k (ring_by places sense u w) ≡ common ∷ (one ++ reverse two)
    pub own : Own (ring_by places sense u w)

  below_fork : (top : Side) (o i : ℕ) (inner : Side) (a b : ℕ) (outer : Side) (sub rest : Branches)
      (u w c : ℕ) (ways other : List ℕ) → Fork outer sub u w ways other →
      Fork top (branch o i inner a b outer sub rest) u w (c ∷ k.top i ∷ ways)
      (c ∷ k.top i ∷ other)
  below_fork top o i inner a b outer sub rest u w c ways other f = record {
    first = f.first;
    second = f.second;
    places = both_below f.places;
    sense = f.sense;
    ends = f.ends;
    above = c ∷ k.top i ∷ f.above;
    common = f.common;
    one = f.one;
    two = f.two;
    one_is = ap (λ cs. c ∷ k.top i ∷ cs) f.one_is;
    two_is = ap (λ cs. c ∷ k.top i ∷ cs) f.two_is;
    apart = f.apart;
    names = f.names;
    own = f.own;
  }

  beside_fork : (top : Side) (o i : ℕ) (inner : Side) (a b : ℕ) (outer : Side)
      (sub rest : Branches) (u w : ℕ) (ways other : List ℕ) → Fork top rest u w ways other →
      Fork top (branch o i inner a b outer sub rest) u w ways other
  beside_fork top o i inner a b outer sub rest u w ways other f = record {
    first = f.first;
    second = f.second;
    places = both_beside f.places;
    sense = f.sense;
    ends = f.ends;
    above = f.above;
    common = f.common;
    one = f.one;
    two = f.two;
    one_is = f.one_is;
    two_is = f.two_is;
    apart = f.apart;
    names = f.names;
    own = f.own;
  }

  module _ (top : Side) (z o i : ℕ) (inner : Side) (a b : ℕ) (outer : Side) (sub rest : Branches)
      (x y : Side) (p : IsOuter outer sub x) (q : IsOuter top rest y) (u w : ℕ)
      (t : IsInTree k number r Outer top z)
      (h : AreBranches k number r (branch o i inner a b outer sub rest)) (in_top : has top o)
      (in_inner : has inner i) (on : AreOn outer sub x p u) (on' : AreOn top rest y q w)
      (low : AreLow (branch o i inner a b outer sub rest))
      (apart : AreApart (side_members (branch_items (branch o i inner a b outer sub rest))))
      (in_x : has x u) (in_y : has y w) where
    abbrev whole : Branches
    whole = branch o i inner a b outer sub rest

    first_fork : Fork top whole u w (t.name ∷ downs top whole x (below p) u)
        (t.name ∷ downs top rest y q w)
    first_fork = record {
      first = x;
      second = y;
      places = split p q;
      sense = to_first;
      ends = (in_x, in_y);
      above = [];
      common = t.name;
      one = downs top whole x (below p) u;
      two = downs top rest y q w;
      one_is = refl;
      two_is = refl;
      apart = parts top o i inner a b outer sub rest x y p q u w h in_inner on' low apart;
      names = ring_names top z whole x (below p) y (beside q) u w t h (in_top, in_inner, on) on';
      own = ring_own top whole x (below p) y (beside q) u w h (in_top, in_inner, on) on';
    }

    second_fork : Fork top whole w u (t.name ∷ downs top rest y q w)
        (t.name ∷ downs top whole x (below p) u)
    second_fork = record {
      first = x;
      second = y;
      places = split p q;
      sense = to_second;
      ends = (in_y, in_x);
      above = [];
      common = t.name;
      one = downs top rest y q w;
      two = downs top whole x (below p) u;
      one_is = refl;
      two_is = refl;
      apart = λ c xs ys e f.
          parts top o i inner a b outer sub rest x y p q u w h in_inner on' low apart c ys xs f e;
      names = ring_names top z whole y (beside q) x (below p) w u t h on' (in_top, in_inner, on);
      own = ring_own top whole y (beside q) x (below p) w u h on' (in_top, in_inner, on);
    }

  pub fork : (top : Side) (z : ℕ) (bs : Branches) (x y : Side) (p : IsOuter top bs x)
      (q : IsOuter top bs y) (u w : ℕ) (t : IsInTree k number r Outer top z) →
      AreBranches k number r bs → AreOn top bs x p u → AreOn top bs y q w → AreLow bs →
      AreApart (side_members (branch_items bs)) → has x u → has y w →
      (k.top u ≡ k.top w → ⊥) →
      Fork top bs u w (t.name ∷ downs top bs x p u) (t.name ∷ downs top bs y q w)
  fork top z bs x y root root u w t h on on' low apart in_x in_y ne =
      absurd (ne (t.at.tops u on ∙ sym (t.at.tops w on')))
  fork top z (branch o i inner a b outer sub rest) x y root (below q) u w t h on on' low apart in_x
      in_y ne =
      second_fork top z o i inner a b outer sub rest y x q root w u t h on'.0 on'.1 on'.2 on low
      apart in_y in_x
  fork top z (branch o i inner a b outer sub rest) x y root (beside q) u w t h on on' low apart in_x
      in_y ne =
      beside_fork top o i inner a b outer sub rest u w _ _
      (fork top z rest x y root q u w t h.4 on on'
      (λ v m. low v (in_rest inner outer sub rest v m))
      (apart_parts inner outer sub rest apart).1 in_x in_y ne)
  fork top z (branch o i inner a b outer sub rest) x y (below p) root u w t h on on' low apart in_x
      in_y ne =
      first_fork top z o i inner a b outer sub rest x y p root u w t h on.0 on.1 on.2 on' low apart
      in_x in_y
  fork top z (branch o i inner a b outer sub rest) x y (below p) (below q) u w t h on on' low apart
      in_x in_y ne =
      subst (λ ws. Fork top (branch o i inner a b outer sub rest) u w (t.name ∷ k.top i ∷ ws)
      (t.name ∷ k.top i ∷ map k.top (way_vertices outer sub y q w)))
      (sym (way_is outer b sub x p u h.1 h.3 on.2))
      (subst (λ ws. Fork top (branch o i inner a b outer sub rest) u w
      (t.name ∷ k.top i ∷ (h.1.name ∷ downs outer sub x p u)) (t.name ∷ k.top i ∷ ws))
      (sym (way_is outer b sub y q w h.1 h.3 on'.2))
      (below_fork top o i inner a b outer sub rest u w t.name (h.1.name ∷ downs outer sub x p u)
      (h.1.name ∷ downs outer sub y q w)
      (fork outer b sub x y p q u w h.1 h.3 on.2 on'.2
      (λ v m. low v (in_sub inner outer sub rest v m))
      (apart_parts inner outer sub rest apart).0 in_x in_y ne)))
  fork top z (branch o i inner a b outer sub rest) x y (below p) (beside q) u w t h on on' low apart
      in_x in_y ne =
      first_fork top z o i inner a b outer sub rest x y p q u w t h on.0 on.1 on.2 on' low apart
      in_x in_y
  fork top z (branch o i inner a b outer sub rest) x y (beside p) root u w t h on on' low apart in_x
      in_y ne =
      beside_fork top o i inner a b outer sub rest u w _ _
      (fork top z rest x y p root u w t h.4 on on'
      (λ v m. low v (in_rest inner outer sub rest v m))
      (apart_parts inner outer sub rest apart).1 in_x in_y ne)
  fork top z (branch o i inner a b outer sub rest) x y (beside p) (below q) u w t h on on' low apart
      in_x in_y ne =
      second_fork top z o i inner a b outer sub rest y x q p w u t h on'.0 on'.1 on'.2 on low apart
      in_y in_x
  fork top z (branch o i inner a b outer sub rest) x y (beside p) (beside q) u w t h on on' low
      apart in_x in_y ne =
      beside_fork top o i inner a b outer sub rest u w _ _
      (fork top z rest x y p q u w t h.4 on on' (λ v m. low v (in_rest inner outer sub rest v m))
      (apart_parts inner outer sub rest apart).1 in_x in_y ne)

-- ---- no two forks of the same ways
same_tail : (x y : ℕ) (xs ys : List ℕ) → x ∷ xs ≡ y ∷ ys → xs ≡ ys
same_tail x y xs ys e = ap (λ zs. behind zs) e
  where
    behind : List ℕ → List ℕ
    behind [] = []
    behind (z ∷ zs) = zs

starts_alike : (c d : ℕ) (above one two rest rest' : List ℕ) → one ≡ above ++ d ∷ rest →
    two ≡ above ++ d ∷ rest' → StartApart one two → ⊥
starts_alike c d [] one two rest rest' e f apart = apart d rest rest' e f
starts_alike c d (a ∷ above) one two rest rest' e f apart =
    apart a (above ++ d ∷ rest) (above ++ d ∷ rest') e f

pub one_fork : OneMeetingLaw
one_fork [] [] c c' one one' two two' e f apart apart' =
    (same_head c c' one one' e, same_tail c c' one one' e, same_tail c c' two two' f)
one_fork [] (b ∷ other) c c' one one' two two' e f apart apart' =
    absurd (starts_alike c c' other one two one' two' (same_tail c b one (other ++ c' ∷ one') e)
    (same_tail c b two (other ++ c' ∷ two') f) apart)
one_fork (a ∷ above) [] c c' one one' two two' e f apart apart' =
    absurd (starts_alike c' c above one' two' one two
    (sym (same_tail a c' (above ++ c ∷ one) one' e))
    (sym (same_tail a c' (above ++ c ∷ two) two' f)) apart')
one_fork (a ∷ above) (b ∷ other) c c' one one' two two' e f apart apart' =
    one_fork above other c c' one one' two two'
    (same_tail a b (above ++ c ∷ one) (other ++ c' ∷ one') e)
    (same_tail a b (above ++ c ∷ two) (other ++ c' ∷ two') f) apart apart'
