-- What is kept leads up from an outer set.
use Rattle.std.proofs.Common.{◌≡◌, ℕ, suc, ◌+◌, ◌==◌, true, false, cond, List, [], ◌∷◌, ◌++◌, length, map, reverse, refl, sym, ap, ◌∙◌, arith, subst, append_assoc, eq-eqb}
use Rattle.std.specs.Prelude.{ℤ}
use Rattle.std.proofs.lemmas.Bool.{ne_eqb}
use Rattle.std.proofs.lemmas.List.{reverse-append}
use Rattle.matching_model.specs.Blossoms.{Side, has}
use Rattle.matching_model.specs.Forests.{Branches, branch, IsOuter, root, below, beside, Mark, Outer, Inner, Away}
use Rattle.matching_ends.specs.Mated.{AreMates}
use Rattle.shown_search.specs.Shown.{Kept, IsInTree, AreBranches}
use Rattle.shown_search.proofs.Growth.{base_is}
use Rattle.shown_matches.specs.Augmenting.{AreOn, way_vertices}
use Rattle.shown_ways.specs.Climbing.{climb, tie_by, tie_up}

abbrev IsInnerMark : Mark → Type 0
IsInnerMark Outer = ⊥
IsInnerMark Inner = Unit {0}
IsInnerMark Away = ⊥

module _ (k : Kept) (number : ℕ → ℤ) (r : ℕ) where
  -- vertices of an inner and of an outer set
  marks_differ : (u v : ℕ) → k.mark (k.top u) ≡ Inner → k.mark (k.top v) ≡ Outer → u ≡ v → ⊥
  marks_differ u v a b e = subst IsInnerMark (sym a ∙ ap (λ z. k.mark (k.top z)) e ∙ b) tt

  -- one set up, by a tie of two vertices
  climbs_to : (n c a b : ℕ) → tie_up k c ≡ (a, b) → (a ≡ b → ⊥) →
      climb (suc n) k c ≡ c ∷ climb n k (k.top b)
  climbs_to n c a b tie ne =
      ap (λ (p : ℕ × ℕ). c ∷ cond (p.0 == p.1) [] (climb n k (k.top p.1))) tie
      ∙ ap (λ t. c ∷ cond t [] (climb n k (k.top b))) (ne_eqb a b ne)

  pub ends_at : (n c a : ℕ) → tie_up k c ≡ (a, a) → climb (suc n) k c ≡ c ∷ []
  ends_at n c a tie =
      ap (λ (p : ℕ × ℕ). c ∷ cond (p.0 == p.1) [] (climb n k (k.top p.1))) tie
      ∙ ap (λ t. c ∷ cond t [] (climb n k (k.top a))) (eq-eqb a a refl)

  -- the tie of an outer set
  pub outer_tie : (x : Side) (v : ℕ) (h : IsInTree k number r Outer x v) →
      tie_up k h.name ≡ (v, k.mate v)
  outer_tie x v h = ap (λ m. tie_by m k h.name) h.at.marked
      ∙ ap (λ (z : ℕ). (z, k.mate z))
      (base_is k.vertices k.children k.joint k.base k.mate h.name v h.at.based)

  -- how many sets the way has beside its top, and their names from below up
  abbrev pub steps : (top : Side) (bs : Branches) (x : Side) → IsOuter top bs x → ℕ
  steps top bs x root = 0
  steps top (branch o i inner a b outer sub rest) x (below q) = suc (suc (steps outer sub x q))
  steps top (branch o i inner a b outer sub rest) x (beside q) = steps top rest x q

  abbrev pub ups : (top : Side) (bs : Branches) (x : Side) → IsOuter top bs x → List ℕ
  ups top bs x root = []
  ups top (branch o i inner a b outer sub rest) x (below q) =
      ups outer sub x q ++ k.top b ∷ k.top i ∷ []
  ups top (branch o i inner a b outer sub rest) x (beside q) = ups top rest x q

  pub climbs : (top : Side) (z : ℕ) (bs : Branches) (x : Side) (q : IsOuter top bs x) (u n : ℕ)
      (t : IsInTree k number r Outer top z) → AreBranches k number r bs → AreOn top bs x q u →
      climb (steps top bs x q + n) k (k.top u) ≡ ups top bs x q ++ climb n k t.name
  climbs top z bs x root u n t h on =
      ap (λ m. climb m k (k.top u)) (let e : 0 + n ≡ n = omega arith in e)
      ∙ ap (climb n k) (t.at.tops u on)
  climbs top z (branch o i inner a b outer sub rest) x (below q) u n t h on =
      ap (λ m. climb m k (k.top u)) count
      ∙ climbs outer b sub x q u (suc (suc n)) h.1 h.3 on.2
      ∙ ap (λ zs. ups outer sub x q ++ zs) (first ∙ ap (λ zs. k.top b ∷ zs) second)
      ∙ sym (append_assoc (ups outer sub x q) (k.top b ∷ k.top i ∷ []) (climb n k t.name))
    where
      count : suc (suc (steps outer sub x q)) + n ≡ steps outer sub x q + suc (suc n)
      count = omega arith

      inner_name : k.top a ≡ h.0.in_tree.name
      inner_name = h.0.in_tree.at.tops a h.0.in_tree.at.holds

      inner_is : k.mark (k.top a) ≡ Inner
      inner_is = ap k.mark inner_name ∙ h.0.in_tree.at.marked

      i_name : k.top i ≡ h.0.in_tree.name
      i_name = h.0.in_tree.at.tops i on.1

      outer_name : k.top b ≡ h.1.name
      outer_name = h.1.at.tops b h.1.at.holds

      outer_is : k.mark (k.top b) ≡ Outer
      outer_is = ap k.mark outer_name ∙ h.1.at.marked

      first : climb (suc (suc n)) k h.1.name ≡ k.top b ∷ climb (suc n) k (k.top i)
      first = climbs_to (suc n) h.1.name b a
          (outer_tie outer b h.1 ∙ ap (λ (y : ℕ). (b, y)) h.2.1)
          (λ e. marks_differ a b inner_is outer_is (sym e))
          ∙ ap (λ c. c ∷ climb (suc n) k (k.top a)) (sym outer_name)
          ∙ ap (λ c. k.top b ∷ climb (suc n) k c) (inner_name ∙ sym i_name)

      i_is : k.mark (k.top i) ≡ Inner
      i_is = ap k.mark i_name ∙ h.0.in_tree.at.marked

      o_is : k.mark (k.top o) ≡ Outer
      o_is = ap k.mark (t.at.tops o on.0) ∙ t.at.marked

      second : climb (suc n) k (k.top i) ≡ k.top i ∷ climb n k t.name
      second = climbs_to n (k.top i) i o
          (ap (λ m. tie_by m k (k.top i)) i_is ∙ ap k.link i_name ∙ h.0.linked)
          (λ e. marks_differ i o i_is o_is e)
          ∙ ap (λ c. k.top i ∷ climb n k c) (t.at.tops o on.0)
  climbs top z (branch o i inner a b outer sub rest) x (beside q) u n t h on =
      climbs top z rest x q u n t h.4 on

  -- with the top, they are those of the way's vertices
  backwards : (c : ℕ) (cs : List ℕ) → reverse (c ∷ cs) ≡ reverse cs ++ c ∷ []
  backwards c cs = reverse-append (c ∷ []) cs

  pub ups_with_top : (top : Side) (z : ℕ) (bs : Branches) (x : Side) (q : IsOuter top bs x)
      (u : ℕ) (t : IsInTree k number r Outer top z) → AreBranches k number r bs →
      AreOn top bs x q u → ups top bs x q ++ t.name ∷ []
      ≡ reverse (map k.top (way_vertices top bs x q u))
  ups_with_top top z bs x root u t h on = ap (λ c. c ∷ []) (sym (t.at.tops u on))
  ups_with_top top z (branch o i inner a b outer sub rest) x (below q) u t h on =
      append_assoc (ups outer sub x q) (k.top b ∷ k.top i ∷ []) (t.name ∷ [])
      ∙ sym (append_assoc (ups outer sub x q) (k.top b ∷ []) (k.top i ∷ t.name ∷ []))
      ∙ ap (λ zs. zs ++ k.top i ∷ t.name ∷ [])
      (ap (λ c. ups outer sub x q ++ c ∷ []) (h.1.at.tops b h.1.at.holds)
      ∙ ups_with_top outer b sub x q u h.1 h.3 on.2)
      ∙ ap (λ c. behind ++ k.top i ∷ c ∷ []) (sym (t.at.tops o on.0))
      ∙ sym (append_assoc behind (k.top i ∷ []) (k.top o ∷ []))
      ∙ ap (λ zs. zs ++ k.top o ∷ []) (sym (backwards (k.top i) (map k.top ways)))
      ∙ sym (backwards (k.top o) (k.top i ∷ map k.top ways))
    where
      ways : List ℕ
      ways = way_vertices outer sub x q u

      behind : List ℕ
      behind = reverse (map k.top (way_vertices outer sub x q u))
  ups_with_top top z (branch o i inner a b outer sub rest) x (beside q) u t h on =
      ups_with_top top z rest x q u t h.4 on

  pub way_length : (top : Side) (bs : Branches) (x : Side) (q : IsOuter top bs x) (u : ℕ) →
      length (way_vertices top bs x q u) ≡ suc (steps top bs x q)
  way_length top bs x root u = refl
  way_length top (branch o i inner a b outer sub rest) x (below q) u =
      let e = way_length outer sub x q u in omega (arith, e)
  way_length top (branch o i inner a b outer sub rest) x (beside q) u =
      way_length top rest x q u
