-- The children of a set that comes apart are outermost sets, and what lies beside it stays.
use Rattle.std.proofs.Common.{◌≡◌, ℕ, ◌≤◌, ◌<◌, true, false, List, [], ◌∷◌, ◌++◌, length, refl, sym, ap, ◌∙◌, arith, subst, ⊎_elim}
use Rattle.std.specs.Prelude.{ℤ}
use Rattle.std.proofs.lemmas.Bool.{false≢true, cases_eq}
use Rattle.graph_model.specs.Graph.{is_in}
use Rattle.graph_model.proofs.Members.{is_in_first, is_in_rest, is_in_cases}
use Rattle.matching_model.specs.Matchings.{AreApart}
use Rattle.matching_model.specs.Blossoms.{Blossom, Side, has, members, side_members}
use Rattle.matching_model.specs.Forests.{Mark, Inner, Away}
use Rattle.matching_model.proofs.Crossed.{apart_append}
use Rattle.matching_model.proofs.Slacks.{members_ring}
use Rattle.shown_search.specs.Shown.{Kept, IsSet, single, ring, AreChildren, no_child, child, IsBase, itself as base_itself, of_ring, IsAt, IsInTree, IsLinked, IsAway}
use Rattle.shown_search.proofs.Beside.{in_first, in_later}
use Rattle.shown_search.proofs.Frames.{in_middle, same_set, same_base, set_low}
use Rattle.shown_search.proofs.Growth.{base_low}
use Rattle.shown_openings.specs.Opening.{ComesApart, IsPut, IsTop, LiesIn, itself, deeper, Writes, written}

-- ---- the vertices of a shown set
module _ (n : ℕ) (children : ℕ → List ℕ) (joint : ℕ → ℕ × ℕ) (number : ℕ → ℤ) where
  -- a child of a name, and where its vertices are
  record Child (ss : List Side) (c : ℕ) : Type 0 where
    side : Side
    set : IsSet n children joint number c side.body
    within : (u : ℕ) → has side u → is_in (side_members ss) u ≡ true

  child_in : (cs : List ℕ) (ss : List Side) → AreChildren n children joint number cs ss → (c : ℕ) →
      is_in cs c ≡ true → Child ss c
  child_in xs ys no_child c m = absurd (false≢true m)
  child_in xs ys (child {c} {cs} {s} {ss} set e j rest) d m =
      ⊎_elim (λ same. here same) (λ later. behind (child_in cs ss rest d later))
      (is_in_cases c d cs m)
    where
      here : c ≡ d → Child (s ∷ ss) d
      here same = record {
        side = s;
        set = subst (λ z. IsSet n children joint number z s.body) same set;
        within = λ u i. in_first s ss u i;
      }

      behind : Child ss d → Child (s ∷ ss) d
      behind k = record {
        side = k.side;
        set = k.set;
        within = λ u i. in_later s ss u (k.within u i);
      }

  pub lies_member : (z s : ℕ) (b : Blossom) → z < n → IsSet n children joint number s b →
      LiesIn n children z s → is_in (members b) z ≡ true
  lies_member z s b low (single {v} below) (itself e) =
      subst (λ y. is_in (v ∷ []) y ≡ true) e (is_in_first v [])
  lies_member z s b low (ring ss from e' each) (itself e) = absurd (omega (arith, low, from, e))
  lies_member z s b low (single below) (deeper c from m inner) = absurd (omega (arith, below, from))
  lies_member z s b low (ring ss from e each) (deeper c from' m inner) =
      let k = child_in (children s) ss each c m in
      subst (λ y. is_in (members y) z ≡ true) (sym e)
      (ap (λ xs. is_in xs z) (members_ring ss)
      ∙ k.within z (lies_member z c k.side.body low k.set inner))

  pub base_member : (base mate : ℕ → ℕ) (s v : ℕ) → IsBase n children joint base mate s v →
      (b : Blossom) → IsSet n children joint number s b → is_in (members b) v ≡ true
  base_member base mate s v (base_itself low e) b (single below) = is_in_first v []
  base_member base mate s v (base_itself low e) b (ring ss from e' each) =
      absurd (omega (arith, low, from))
  base_member base mate s v (of_ring before c behind from e e' inner twos) b (single below) =
      absurd (omega (arith, below, from))
  base_member base mate s v (of_ring before c behind from e e' inner twos) b
      (ring ss from' e'' each) =
      let k = child_in (children s) ss each c (subst (λ xs. is_in xs c ≡ true) (sym e)
      (in_middle before c behind)) in
      subst (λ z. is_in (members z) v ≡ true) (sym e'')
      (ap (λ xs. is_in xs v) (members_ring ss)
      ∙ k.within v (base_member base mate c v inner k.side.body k.set))

module _ (k : Kept) (number : ℕ → ℤ) (set : ℕ) (w : Writes) (top : IsTop k set)
    (apart : ComesApart k set w) where
  abbrev pub k' : Kept
  k' = written k w

  abbrev pub Good : ℕ → Type 0
  Good c = c ≡ set → ⊥

  kids : (s : ℕ) → Good s → k.vertices ≤ s → k'.children s ≡ k.children s
  kids s good from = apart.children s from good

  inside : (s c : ℕ) → Good s → k.vertices ≤ s → is_in (k.children s) c ≡ true →
      Good c × (k.joint c ≡ k.joint c)
  inside s c good from m = (top.alone s c from m, refl)

  still_set : (s : ℕ) (b : Blossom) → IsSet k.vertices k.children k.joint number s b → Good s →
      IsSet k.vertices k'.children k.joint number s b
  still_set s b h good =
      same_set k.vertices k.children k'.children k.joint k.joint Good kids number number inside
      (λ t c g from m. refl) s b h good

  still_based : (s v : ℕ) → IsBase k.vertices k.children k.joint k.base k.mate s v → Good s →
      IsBase k.vertices k'.children k.joint k.base k.mate s v
  still_based s v h good =
      same_base k.vertices k.children k'.children k.joint k.joint Good kids k.base k.base k.mate
      k.mate inside (λ t g. refl) (λ u. refl) s v h good

  -- ---- beside the set
  -- a vertex whose new set is no child was elsewhere
  elsewhere : (u c : ℕ) → u < k.vertices → is_in (k.children set) c ≡ false → w.top u ≡ c →
      k.top u ≡ c
  elsewhere u c low out e =
      ⊎_elim (λ same. absurd (false≢true (sym out ∙ subst (λ z. is_in (k.children set) z ≡ true) e
      (apart.opened u low same).0)))
      (λ ne. sym (apart.tops u low ne) ∙ e) (cases_eq (k.top u) set)

  pub no_child_at : (m : Mark) (s : ℕ) (x : Side) (v : ℕ) → IsAt k number m s x v →
      is_in (k.children set) s ≡ false
  no_child_at m s x v h = subst (λ c. is_in (k.children set) c ≡ false) (h.tops v h.holds)
      (top.inside v (base_low k.vertices k.children k.joint k.base k.mate s v h.based))

  pub beside_at : (m : Mark) (s : ℕ) (x : Side) (v : ℕ) → Good s → IsAt k number m s x v →
      IsAt k' number m s x v
  beside_at m s x v good h = record {
    set = still_set s x.body h.set good;
    numbered = h.numbered;
    tops = λ u i. apart.tops u
        (set_low k.vertices k.children k.joint number s x.body h.set u i)
        (λ e. good (sym (h.tops u i) ∙ e)) ∙ h.tops u i;
    only = λ u low e. h.only u low (elsewhere u s low (no_child_at m s x v h) e);
    based = still_based s v h.based good;
    holds = h.holds;
    marked = apart.marks s (no_child_at m s x v h) ∙ h.marked;
  }

  -- ---- the children
  pub record IsChild (c : ℕ) (s : Side) : Type 0 where
    pub is_set : IsSet k.vertices k.children k.joint number c s.body
    pub numbered : s.number ≡ number c
    pub joined : k.joint c ≡ (s.out, s.into)
    pub good : Good c
    pub tops : (u : ℕ) → has s u → w.top u ≡ c
    pub only : (u : ℕ) → u < k.vertices → w.top u ≡ c → has s u

  abbrev pub Named : List ℕ → List Side → Type 0
  Named [] [] = Unit {0}
  Named [] (s ∷ ss) = ⊥
  Named (c ∷ cs) [] = ⊥
  Named (c ∷ cs) (s ∷ ss) = IsChild c s × Named cs ss

  -- where a vertex of these children is
  abbrev pub Lies : List ℕ → ℕ → Type 0
  Lies cs u = (u < k.vertices) × (is_in cs (w.top u) ≡ true)
      × LiesIn k.vertices k.children u (w.top u)

  pub children_named : (cs : List ℕ) (ss : List Side) →
      AreChildren k.vertices k.children k.joint number cs ss →
      ((c : ℕ) → is_in cs c ≡ true → Good c × (is_in (k.children set) c ≡ true)) →
      AreApart (side_members ss) → ((u : ℕ) → is_in (side_members ss) u ≡ true → Lies cs u) →
      Named cs ss
  children_named xs ys no_child each once lies = tt
  children_named xs ys (child {c} {cs} {s} {ss} is e j rest) each once lies = (
    record {
      is_set = is;
      numbered = e;
      joined = j;
      good = (each c (is_in_first c cs)).0;
      tops = tops_here;
      only = only_here;
    },
    children_named cs ss rest (λ d m. each d (is_in_rest c d cs m)) parts.1
        (λ u m. lies_later u m),
  )
    where
      parts : AreApart (members s.body) × AreApart (side_members ss) × ((u : ℕ) → has s u →
          is_in (side_members ss) u ≡ false)
      parts = apart_append (members s.body) (side_members ss) once

      in_child : (u d : ℕ) → u < k.vertices → LiesIn k.vertices k.children u d → is_in cs d ≡ true →
          is_in (side_members ss) u ≡ true
      in_child u d low lie m =
          let q = child_in k.vertices k.children k.joint number cs ss rest d m in
          q.within u
          (lies_member k.vertices k.children k.joint number u d q.side.body low q.set lie)

      here : (u : ℕ) → u < k.vertices → LiesIn k.vertices k.children u c → has s u
      here u low lie =
          lies_member k.vertices k.children k.joint number u c s.body low is lie

      tops_here : (u : ℕ) → has s u → w.top u ≡ c
      tops_here u m =
          let l = lies u (in_first s ss u m) in
          ⊎_elim (λ e. sym e)
          (λ later. absurd (false≢true (sym (parts.2 u m) ∙ in_child u (w.top u) l.0 l.2 later)))
          (is_in_cases c (w.top u) cs l.1)

      only_here : (u : ℕ) → u < k.vertices → w.top u ≡ c → has s u
      only_here u low e =
          ⊎_elim (λ same. here u low (subst (LiesIn k.vertices k.children u) e
          (apart.opened u low same).1))
          (λ ne. absurd (false≢true (sym (top.inside u low)
          ∙ subst (λ d. is_in (k.children set) d ≡ true) (sym e ∙ apart.tops u low ne)
          (each c (is_in_first c cs)).1)))
          (cases_eq (k.top u) set)

      lies_later : (u : ℕ) → is_in (side_members ss) u ≡ true → Lies cs u
      lies_later u m =
          let l = lies u (in_later s ss u m) in
          ⊎_elim (λ e. absurd (false≢true (sym (parts.2 u (here u l.0
          (subst (LiesIn k.vertices k.children u) (sym e) l.2))) ∙ m)))
          (λ later. (l.0, later, l.2)) (is_in_cases c (w.top u) cs l.1)

  abbrev pub Based : ℕ → ℕ → Type 0
  Based c v = IsBase k.vertices k.children k.joint k.base k.mate c v

  child_at : (m : Mark) (c : ℕ) (s : Side) (v : ℕ) → IsChild c s → Based c v → w.mark c ≡ m →
      IsAt k' number m c s v
  child_at m c s v h b e = record {
    set = still_set c s.body h.is_set h.good;
    numbered = h.numbered;
    tops = h.tops;
    only = h.only;
    based = still_based c v b h.good;
    holds = base_member k.vertices k.children k.joint number k.base k.mate c v b s.body h.is_set;
    marked = e;
  }

  pub child_in_tree : (r : ℕ) (m : Mark) (c : ℕ) (s : Side) (v : ℕ) → IsChild c s → Based c v →
      IsPut k' r m c → IsInTree k' number r m s v
  child_in_tree r m c s v h b put = record {
    name = c;
    at = child_at m c s v h b put.0;
    labelled = put.1;
  }

  pub child_linked : (r o i c : ℕ) (s : Side) (v : ℕ) → IsChild c s → Based c v →
      IsPut k' r Inner c → w.link c ≡ (i, o) → IsLinked k' number r o i s v
  unfolding child_in_tree
  child_linked r o i c s v h b put link = record {
    in_tree = child_in_tree r Inner c s v h b put;
    linked = link;
  }

  pub child_away : (c : ℕ) (s : Side) (v : ℕ) → IsChild c s → Based c v → w.mark c ≡ Away →
      IsAway k' number s v
  child_away c s v h b e = record { name = c; at = child_at Away c s v h b e }

  -- ---- parts of the ring
  pub record Parts (xs ys : List ℕ) (ss : List Side) : Type 0 where
    pub left : List Side
    pub right : List Side
    pub whole : ss ≡ left ++ right
    pub one : Named xs left
    pub two : Named ys right

  pub named_split : (xs ys : List ℕ) (ss : List Side) → Named (xs ++ ys) ss → Parts xs ys ss
  named_split [] ys ss h = record { left = []; right = ss; whole = refl; one = tt; two = h }
  named_split (x ∷ xs) ys [] h = absurd h
  named_split (x ∷ xs) ys (s ∷ ss) h =
      let q = named_split xs ys ss h.1 in
      record {
        left = s ∷ q.left;
        right = q.right;
        whole = ap (λ zs. s ∷ zs) q.whole;
        one = (h.0, q.one);
        two = q.two;
      }

  pub record Middle (xs : List ℕ) (c : ℕ) (ys : List ℕ) (ss : List Side) : Type 0 where
    pub left : List Side
    pub side : Side
    pub right : List Side
    pub whole : ss ≡ left ++ side ∷ right
    pub one : Named xs left
    pub at : IsChild c side
    pub two : Named ys right

  pub named_middle : (xs : List ℕ) (c : ℕ) (ys : List ℕ) (ss : List Side) →
      Named (xs ++ c ∷ ys) ss → Middle xs c ys ss
  named_middle xs c ys ss h = from (named_split xs (c ∷ ys) ss h)
    where
      with_right : (left right : List Side) → ss ≡ left ++ right → Named xs left →
          Named (c ∷ ys) right → Middle xs c ys ss
      with_right left [] e one two = absurd two
      with_right left (s ∷ right) e one two = record {
        left = left;
        side = s;
        right = right;
        whole = e;
        one = one;
        at = two.0;
        two = two.1;
      }

      from : Parts xs (c ∷ ys) ss → Middle xs c ys ss
      from q = with_right q.left q.right q.whole q.one q.two

  pub named_append : (xs ys : List ℕ) (left right : List Side) → Named xs left → Named ys right →
      Named (xs ++ ys) (left ++ right)
  named_append [] ys [] right a b = b
  named_append [] ys (s ∷ left) right a b = absurd a
  named_append (x ∷ xs) ys [] right a b = absurd a
  named_append (x ∷ xs) ys (s ∷ left) right a b = (a.0, named_append xs ys left right a.1 b)

  pub named_length : (cs : List ℕ) (ss : List Side) → Named cs ss → length ss ≡ length cs
  named_length [] [] h = refl
  named_length [] (s ∷ ss) h = absurd h
  named_length (c ∷ cs) [] h = absurd h
  named_length (c ∷ cs) (s ∷ ss) h =
      let e = named_length cs ss h.1 in omega (arith, e)
