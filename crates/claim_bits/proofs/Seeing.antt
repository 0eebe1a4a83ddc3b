-- What a guess rests on is what it may rest on.
use Rattle.std.proofs.Common.{◌≡◌, ℕ, ◌<◌, ◌==◌, ◌&&◌, Bool, true, false, nat_lt, List, get_or, slice_get, Some, refl, sym, ap, ◌∙◌, subst, arith, length, All}
use Rattle.std.specs.List.{list_any}
use Rattle.std.specs.Option.{option_map_or}
use Rattle.std.proofs.lemmas.Bool.{and_from, and_parts, ltb-true}
use Rattle.std.proofs.lemmas.Option.{same_Some}
use Rattle.graph_model.specs.Graph.{GraphEdge, IsGraph, ends_at, ends_of, is_in}
use Rattle.graph_model.proofs.Members.{any_found, any_from, is_in-filter, is_in_at}
use Rattle.graph_model.proofs.Truths.{same_tests}
use Rattle.window_model.specs.Guesses.{IsGuessed, is_defect_of, is_linked as is_linked_in, view_of as view_in}
use Rattle.window_model.specs.declared.GuessView.{GuessView}
use Rattle.window_model.specs.declared.Origin.TheVariants.{Guess}
use Rattle.window_model.specs.Speculation.{Machine}
use Rattle.window_model.specs.Windows.{edge_passes, home_of, places, slot_of, window_at}
use Rattle.window_setting.specs.Settings.{IsSetting}
use Rattle.window_setting.proofs.Lawful.{laws_of}
use Rattle.window_model.proofs.Plans.{edge_below, edge_in, passing}
use Rattle.claim_bits.specs.Seen.{Seen, HasSeen, has_defect, is_defect, is_linked, joins, view_of}

-- the same test of each element
any_alike : (p q : ℕ → Bool) (xs : List ℕ) → ((x : ℕ) → is_in xs x ≡ true → p x ≡ q x) →
    list_any p xs ≡ list_any q xs
any_alike p q xs same =
    same_tests (list_any p xs) (list_any q xs)
    (λ h. let k = any_found p xs h in any_from q xs k.0 k.1 (sym (same k.0 k.1) ∙ k.2))
    (λ h. let k = any_found q xs h in any_from p xs k.0 k.1 (same k.0 k.1 ∙ k.2))

guarded : (a b p q : Bool) → (b ≡ true → p ≡ q) → (a && b) && p ≡ (a && b) && q
guarded true true p q same = same refl
guarded true false p q same = refl
guarded false b p q same = refl

module _ (m : Machine) (seen : Seen) (graph : IsGraph seen.task.graph) (has : HasSeen m seen) where
  arrived_as : (u : ℕ) → nat_lt (slot_of seen.task.tags u) seen.arrived
      ≡ nat_lt (slot_of seen.task.tags u) m.arrived
  arrived_as u = ap (nat_lt (slot_of seen.task.tags u)) (sym has.arrived)

  defect_as : (x u : ℕ) → u < seen.task.graph.vertices →
      is_defect seen x u ≡ is_defect_of seen.task m x u
  defect_as x u l =
      guarded (home_of seen.task.plan.homes u == x) (nat_lt (slot_of seen.task.tags u) seen.arrived)
      (get_or seen.values u false) (m.value u)
      (λ early. has.values.value u l (ltb-true _ _ early))
      ∙ ap (λ b. (home_of seen.task.plan.homes u == x && b) && m.value u) (arrived_as u)

  ends_below : (e : ℕ) (edge : GraphEdge) → slice_get seen.task.graph.edges e ≡ Some edge →
      (u : ℕ) → is_in (ends_of edge) u ≡ true → u < seen.task.graph.vertices
  ends_below e edge at u inside =
      graph u e (ap (λ o. option_map_or (λ (x : GraphEdge). is_in (ends_of x) u) o false) at
      ∙ inside)

  edge_as : (x e : ℕ) (edge : GraphEdge) → slice_get seen.task.graph.edges e ≡ Some edge →
      has_defect seen x edge ≡ list_any (is_defect_of seen.task m x) (ends_of edge)
  edge_as x e edge at = any_alike (is_defect seen x) (is_defect_of seen.task m x) (ends_of edge)
      (λ u inside. defect_as x u (ends_below e edge at u inside))

  passes : (test : GraphEdge → Bool) (e : ℕ) (edge : GraphEdge) →
      slice_get seen.task.graph.edges e ≡ Some edge → test edge ≡ true →
      edge_passes seen.task.graph test e ≡ true
  passes test e edge at h = ap (λ o. option_map_or test o false) at ∙ h

  abbrev in_model : ℕ → ℕ → GraphEdge → Bool
  in_model x v edge = is_in (ends_of edge) v && list_any (is_defect_of seen.task m x) (ends_of edge)

  linked_as : (x v : ℕ) → is_linked seen x v ≡ is_linked_in seen.task m x v
  linked_as x v = same_tests (is_linked seen x v) (is_linked_in seen.task m x v) to from
    where
      to : is_linked seen x v ≡ true → is_linked_in seen.task m x v ≡ true
      to h =
          let k = any_found (joins seen x) _ h in
          let both = and_parts (is_in (window_at seen.task.plan x).owned k.0)
          (edge_passes seen.task.graph (has_defect seen x) k.0) k.2 in
          let here = edge_in seen.task.graph (λ edge. is_in (ends_of edge) v) k.0 k.1 in
          let there = passing (has_defect seen x) (slice_get seen.task.graph.edges k.0) both.1 in
          let same : there.0 ≡ here.0 = same_Some there.0 here.0 (sym there.1 ∙ here.1) in
          let near : list_any (is_defect_of seen.task m x) (ends_of here.0) ≡ true =
          sym (edge_as x k.0 here.0 here.1) ∙ subst (λ edge. has_defect seen x edge ≡ true) same
          there.2 in
          any_from (edge_passes seen.task.graph (in_model x v)) (window_at seen.task.plan x).owned
          k.0 both.0
          (passes (in_model x v) k.0 here.0 here.1 (and_from _ _ here.2 near))

      from : is_linked_in seen.task m x v ≡ true → is_linked seen x v ≡ true
      from h =
          let k = any_found (edge_passes seen.task.graph (in_model x v))
          (window_at seen.task.plan x).owned h in
          let there = passing (in_model x v) (slice_get seen.task.graph.edges k.0) k.2 in
          let both = and_parts (is_in (ends_of there.0) v)
          (list_any (is_defect_of seen.task m x) (ends_of there.0)) there.2 in
          any_from (joins seen x) _ k.0 (edge_below seen.task.graph (λ edge. is_in (ends_of edge) v)
          k.0 there.0 there.1 both.0)
          (and_from _ _ k.1 (passes (has_defect seen x) k.0 there.0 there.1
          (edge_as x k.0 there.0 there.1 ∙ both.1)))

  pub view_as : (x w v : ℕ) → v < seen.task.graph.vertices →
      slot_of seen.task.tags v < seen.arrived → view_of seen x w v ≡ view_in seen.task m x w v
  view_as x w v l early = λ i. record {
    source = x;
    target = w;
    place = v;
    value =
        has.values.value v l early i;
    linked = linked_as x v i;
  }

-- The bits of a guess, each of which stands in the relation with what is seen of its place.
pub guessed : (P : GuessView → Bool → Type 0) (m : Machine) (seen : Seen) → IsSetting seen.task →
    HasSeen m seen → (x w : ℕ) → (window_at seen.task.plan w).last < seen.arrived →
    (here : List ℕ) (bits : List Bool) → here ≡ places seen.task.graph seen.task.plan x w →
    All (λ v. v < seen.task.graph.vertices) here → length bits ≡ length here →
    ((i : ℕ) → i < length bits → P (view_of seen x w (get_or here i 0)) (get_or bits i false)) →
    IsGuessed P seen.task m w (record { source = x; origin = Guess; bits = bits })
guessed P m seen setting has x w last here bits is below long each = record { bit = bit }
  where
    early : (i : ℕ) → i < length here → slot_of seen.task.tags (get_or here i 0) < seen.arrived
    early i l =
        let shared : ℕ → Bool = λ v. list_any (ends_at seen.task.graph v)
        (window_at seen.task.plan x).owned in
        let inside : is_in (places seen.task.graph seen.task.plan x w) (get_or here i 0) ≡ true =
        ap (λ ps. is_in ps (get_or here i 0)) (sym is) ∙ is_in_at here i l in
        let both = and_parts (is_in (window_at seen.task.plan w).detectors (get_or here i 0))
        (shared (get_or here i 0))
        (sym (is_in-filter shared (window_at seen.task.plan w).detectors (get_or here i 0))
        ∙ inside) in
        let covers = (laws_of seen.task setting).last_covers w (get_or here i 0) both.0 in
        omega (arith, covers, last)

    bit : Guess ≡ Guess → (i : ℕ) → i < length bits →
        P (view_in seen.task m x w (get_or (places seen.task.graph seen.task.plan x w) i 0))
        (get_or bits i false)
    bit origin i l =
        let short : i < length here = omega (arith, l, long) in
        subst (λ ps. P (view_in seen.task m x w (get_or ps i 0)) (get_or bits i false)) is
        (subst (λ view. P view (get_or bits i false))
        (view_as m seen setting.is_graph has x w (get_or here i 0) (below i 0 short)
        (early i short)) (each i l))
