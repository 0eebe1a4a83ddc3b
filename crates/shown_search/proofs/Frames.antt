-- Entries that agree inside a set show it still.
use Rattle.std.proofs.Common.{◌≡◌, ℕ, ◌≤◌, ◌<◌, ◌==◌, ◌||◌, Bool, true, false, List, [], ◌∷◌, ◌++◌, refl, sym, ap, ◌∙◌, subst, ⊎_elim}
use Rattle.std.specs.Prelude.{ℤ}
use Rattle.std.proofs.lemmas.Bool.{false≢true, or_cases}
use Rattle.graph_model.specs.Graph.{is_in}
use Rattle.graph_model.proofs.Members.{is_in_first, is_in_rest, is_in_cases, is_in-append}
use Rattle.matching_model.specs.Blossoms.{Blossom, Side, members, side_members}
use Rattle.matching_model.proofs.Slacks.{members_ring}
use Rattle.matching_ends.specs.Mated.{AreMates}
use Rattle.shown_search.specs.Shown.{IsSet, single, ring, AreChildren, no_child, child, IsBase, itself, of_ring, AreTwos, no_two, two}

pub in_middle : (before : List ℕ) (c : ℕ) (behind : List ℕ) → is_in (before ++ c ∷ behind) c ≡ true
in_middle [] c behind = is_in_first c behind
in_middle (x ∷ before) c behind = is_in_rest x c (before ++ c ∷ behind) (in_middle before c behind)

-- in a turned list
in_turn : (before : List ℕ) (c : ℕ) (behind : List ℕ) (d : ℕ) → is_in (behind ++ before) d ≡ true →
    is_in (before ++ c ∷ behind) d ≡ true
in_turn before c behind d m = is_in-append before (c ∷ behind) d
    ∙ or_more (c == d) (is_in behind d) (is_in before d) (sym (is_in-append behind before d) ∙ m)
  where
    or_more : (a b e : Bool) → b || e ≡ true → e || (a || b) ≡ true
    or_more a b true h = refl
    or_more true b false h = refl
    or_more false true false h = refl
    or_more false false false h = absurd (false≢true h)

-- the vertices of a shown set
module _ (n : ℕ) (children : ℕ → List ℕ) (joint : ℕ → ℕ × ℕ) (number : ℕ → ℤ) where
  mutual
    pub set_low : (s : ℕ) (b : Blossom) → IsSet n children joint number s b → (u : ℕ) →
        is_in (members b) u ≡ true → u < n
    set_low s b (single {v} below) u m =
        ⊎_elim (λ e. subst (λ z. z < n) e below) (λ r. absurd (false≢true r))
        (is_in_cases v u [] m)
    set_low s b (ring ss from e each) u m = children_low (children s) ss each u
        (sym (ap (λ xs. is_in xs u) (members_ring ss))
        ∙ subst (λ z. is_in (members z) u ≡ true) e m)

    pub children_low : (cs : List ℕ) (ss : List Side) →
        AreChildren n children joint number cs ss → (u : ℕ) →
        is_in (side_members ss) u ≡ true → u < n
    children_low xs ys no_child u m = absurd (false≢true m)
    children_low xs ys (child {c} {cs} {s} {ss} set e j rest) u m =
        ⊎_elim (λ l. set_low c s.body set u l) (λ r. children_low cs ss rest u r)
        (or_cases (is_in (members s.body) u) (is_in (side_members ss) u)
        (sym (is_in-append (members s.body) (side_members ss) u) ∙ m))

module _ (n : ℕ) (children children' : ℕ → List ℕ) (joint joint' : ℕ → ℕ × ℕ) (Good : ℕ →
    Type 0) (kids : (s : ℕ) → Good s → n ≤ s →
    children' s ≡ children s) where
  -- what is written agrees with what was there at all sets inside good ones
  abbrev pub Inside : Type 0
  Inside = (s c : ℕ) → Good s → n ≤ s → is_in (children s) c ≡ true → Good c × (joint' c ≡ joint c)

  module _ (number number' : ℕ → ℤ) (inside : Inside) (same : (s c : ℕ) → Good s → n ≤ s →
      is_in (children s) c ≡ true → number' c ≡ number c) where
    mutual
      pub same_set : (s : ℕ) (b : Blossom) → IsSet n children joint number s b → Good s →
          IsSet n children' joint' number' s b
      same_set s b (single low) good = single low
      same_set s b (ring ss from e each) good =
          ring ss from e (subst (λ xs. AreChildren n children' joint' number' xs ss)
          (sym (kids s good from))
          (same_children (children s) ss each (λ c m. let i = inside s c good from m in
          (i.0, i.1, same s c good from m))))

      pub same_children : (cs : List ℕ) (ss : List Side) →
          AreChildren n children joint number cs ss →
          ((c : ℕ) → is_in cs c ≡ true → Good c × (joint' c ≡ joint c) × (number' c ≡ number c)) →
          AreChildren n children' joint' number' cs ss
      same_children xs ys no_child each = no_child
      same_children xs ys (child {c} {cs} {s} {ss} set e j rest) each =
          let i = each c (is_in_first c cs) in
          child (same_set c s.body set i.0) (e ∙ sym i.2) (i.1 ∙ j)
          (same_children cs ss rest (λ d m. each d (is_in_rest c d cs m)))

  module _ (base base' mate mate' : ℕ → ℕ) (inside : Inside) (bases : (s : ℕ) → Good s →
      base' s ≡ base s) (mates : (u : ℕ) → mate' u ≡ mate u) where
    still_mates : (u w : ℕ) → AreMates mate u w → AreMates mate' u w
    still_mates u w h = (mates u ∙ h.0, mates w ∙ h.1)

    mutual
      pub same_base : (s v : ℕ) → IsBase n children joint base mate s v → Good s →
          IsBase n children' joint' base' mate' s v
      same_base s v (itself low e) good = itself low (bases s good ∙ e)
      same_base s v (of_ring before c behind from e b deeper twos) good =
          of_ring before c behind from (kids s good from ∙ e) (bases s good ∙ b)
          (same_base c v deeper
          (inside s c good from (subst (λ xs. is_in xs c ≡ true) (sym e)
          (in_middle before c behind))).0)
          (same_twos (behind ++ before) twos (λ d m. inside s d good from
          (subst (λ xs. is_in xs d ≡ true) (sym e) (in_turn before c behind d m))))

      pub same_twos : (cs : List ℕ) → AreTwos n children joint base mate cs →
          ((c : ℕ) → is_in cs c ≡ true → Good c × (joint' c ≡ joint c)) →
          AreTwos n children' joint' base' mate' cs
      same_twos xs no_two each = no_two
      same_twos xs (two {c} {d} {cs} u w j m one other rest) each =
          let i = each c (is_in_first c (d ∷ cs)) in
          let i' = each d (is_in_rest c d (d ∷ cs) (is_in_first d cs)) in
          two u w (i.1 ∙ j) (still_mates u w m) (same_base c u one i.0) (same_base d w other i'.0)
          (same_twos cs rest (λ x q. each x (is_in_rest c x (d ∷ cs) (is_in_rest d x cs q))))
