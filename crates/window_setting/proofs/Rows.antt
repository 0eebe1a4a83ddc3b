-- A slot's row, and the values that arrive with it.
use Rattle.std.proofs.Common.{◌≡◌, ℕ, ◌+◌, ◌<◌, ◌≤◌, ◌==◌, ⊎_elim, Bool, true, false, List, [], length, map, get_or, sym, ap, ◌∙◌, subst, arith, All, slice_get, Some, eq-eqb, eqb-true}
use Rattle.std.specs.List.{range_with_len}
use Rattle.std.specs.List.Sorted.{IsStrictlyIncreasing}
use Rattle.std.proofs.lemmas.Bool.{cases_lt, false_from_ne_true}
use Rattle.std.proofs.lemmas.List.{length-map, get_or-map, get_or_default}
use Rattle.std.proofs.lemmas.List.Kept.{IsStrictlyIncreasing-filter}
use Rattle.std.proofs.lemmas.Option.{get_or_from_slice_get}
use Rattle.graph_model.specs.Graph.{is_in}
use Rattle.graph_model.specs.declared.Tag.{Tag}
use Rattle.graph_model.proofs.Incidence.{increasing_range}
use Rattle.graph_model.proofs.Members.{Contains-is_in, all_within}
use Rattle.window_model.specs.Decoder.{Task}
use Rattle.window_model.proofs.Plans.{in_below, below_in}
use Rattle.window_setting.specs.Settings.{IsSetting}
use Rattle.window_setting.specs.Slots.{AreRows, at_slot, detector_slots}

-- ---- a row
at_slot_has : (slots : List ℕ) (t v : ℕ) → is_in (at_slot slots t) v ≡ true → (v < length slots)
    × (get_or slots v 0 ≡ t)
at_slot_has slots t v m = let both = in_below (λ i. get_or slots i 0 == t) (length slots) v m in
    (both.0, eqb-true (get_or slots v 0) t both.1)

has_at_slot : (slots : List ℕ) (t v : ℕ) → v < length slots → get_or slots v 0 ≡ t →
    is_in (at_slot slots t) v ≡ true
has_at_slot slots t v l e =
    below_in (λ i. get_or slots i 0 == t) (length slots) v l (eq-eqb (get_or slots v 0) t e)

module _ (slots : List ℕ) (count t : ℕ) (rows : List (List ℕ)) (row : List ℕ)
    (h : AreRows slots count rows) (read : slice_get rows t ≡ Some row) where
  pub row_is : row ≡ at_slot slots t
  row_is = sym (get_or_from_slice_get rows t row [] read) ∙ h.row t

  pub row_rises : IsStrictlyIncreasing row
  row_rises = subst IsStrictlyIncreasing (sym row_is) (IsStrictlyIncreasing-filter (λ i.
      get_or slots i 0 == t) (range_with_len 0 (length slots)) (increasing_range 0 (length slots)))

  pub row_below : (n : ℕ) → length slots ≡ n → All (λ v. v < n) row
  row_below n e =
      subst (All (λ v. v < n)) (sym row_is)
      (all_within (λ v. v < n) (at_slot slots t) (λ v m. let l = (at_slot_has slots t v m).0 in
      omega (arith, l, e)))

-- ---- values
module _ (slots : List ℕ) (t : ℕ) (row : List ℕ) (is : row ≡ at_slot slots t) (old new : List Bool)
    (others : (v : ℕ) → is_in row v ≡ false → get_or new v false ≡ get_or old v false) where
  -- those of earlier slots stay
  pub earlier : (v : ℕ) → get_or slots v 0 < t → get_or new v false ≡ get_or old v false
  earlier v low = others v (ap (λ xs. is_in xs v) is ∙ false_from_ne_true (is_in (at_slot slots t)
      v) (λ m. let e = (at_slot_has slots t v m).1 in omega (arith, e, low)))

  -- and those of the slot are new
  pub arrived_values : (f : ℕ → Bool) (values : List Bool) → values ≡ map f (at_slot slots t) →
      ((k : ℕ) → k < length row → get_or new (get_or row k 0) false ≡ get_or values k false) →
      ((v : ℕ) → v < length slots → get_or slots v 0 < t → get_or old v false ≡ f v) → (v : ℕ) →
      v < length slots → get_or slots v 0 < t + 1 → get_or new v false ≡ f v
  arrived_values f values are written before v l low =
      ⊎_elim
      (λ (early : get_or slots v 0 < t). earlier v early ∙ before v l early)
      (λ (late : t ≤ get_or slots v 0).
      let c = Contains-is_in row v (ap (λ xs. is_in xs v) is
      ∙ has_at_slot slots t v l (omega (arith, low, late))) in
      let here : get_or row c.0 0 ≡ v = get_or_default row c.0 0 v c.1 ∙ c.2 in
      ap (λ u. get_or new u false) (sym here)
      ∙ written c.0 c.1
      ∙ ap (λ xs. get_or xs c.0 false) (are ∙ ap (map f) (sym is))
      ∙ get_or-map f row c.0 0 false c.1
      ∙ ap f here)
      (cases_lt (get_or slots v 0) t)

pub detectors_count : (task : Task) → IsSetting task → length (detector_slots task)
    ≡ task.graph.vertices
detectors_count task setting = let slot : Tag → ℕ = λ tag. tag.slot in length-map task.tags slot
    ∙ setting.fit.is_plan.each_tag
