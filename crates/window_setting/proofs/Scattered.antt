-- Values written to their places, one by one.
use Rattle.std.proofs.Common.{◌≡◌, ℕ, ◌+◌, ◌<◌, ◌==◌, ◌||◌, ⊎_elim, Bool, false, List, length, take, get_or, set, sym, ap, ◌∙◌, arith, eq-eqb, get_or-set_same, get_or-set_other}
use Rattle.std.specs.List.Sorted.{IsStrictlyIncreasing}
use Rattle.std.proofs.lemmas.Bool.{cases_eq, false_from_ne_true, or_left, or_right, both_ways}
use Rattle.std.proofs.lemmas.List.Kept.{AllPairs-from_increasing}
use Rattle.graph_model.specs.Graph.{is_in}
use Rattle.graph_model.proofs.Members.{any_more}

module _ (places : List ℕ) (up : IsStrictlyIncreasing places)
    (i : ℕ) (l : i < length places) (values before after_ : List Bool) (b : Bool) (is : after_
    ≡ set before (get_or places i 0) b) where
  pub written_more : b ≡ get_or values i false → get_or places i 0 < length before →
      ((k : ℕ) → k < i → get_or before (get_or places k 0) false ≡ get_or values k false) →
      (k : ℕ) → k < i + 1 → get_or after_ (get_or places k 0) false ≡ get_or values k false
  written_more read within so_far k short =
      ap (λ xs. get_or xs (get_or places k 0) false) is
      ∙ ⊎_elim
      (λ (e : k ≡ i).
      ap (λ n. get_or (set before (get_or places i 0) b) (get_or places n 0) false) e
      ∙ get_or-set_same before (get_or places i 0) b false within
      ∙ read
      ∙ ap (λ n. get_or values n false) (sym e))
      (λ ne.
      let early : k < i = omega (arith, short, ne) in
      let lower = AllPairs-from_increasing places up k i 0 early l in
      get_or-set_other before (get_or places i 0) (get_or places k 0) b false (λ s.
      omega (arith, s, lower)) ∙ so_far k early)
      (cases_eq k i)

  pub others_more : (start : List Bool) → ((v : ℕ) → is_in (take i places) v ≡ false →
      get_or before v false ≡ get_or start v false) →
      (v : ℕ) → is_in (take (i + 1) places) v ≡ false → get_or after_ v false ≡ get_or start v false
  others_more start so_far v out =
      let both : is_in (take i places) v || (get_or places i 0 == v) ≡ false =
      sym (any_more (λ y. y == v) places i l) ∙ out in
      ap (λ xs. get_or xs v false) is
      ∙ get_or-set_other before (get_or places i 0) v b false (λ e.
      both_ways (is_in (take i places) v || (get_or places i 0 == v)) both (or_right (is_in
      (take i places) v) (get_or places i 0 == v) (eq-eqb (get_or places i 0) v (sym e))))
      ∙ so_far v (false_from_ne_true (is_in (take i places) v) (λ m.
      both_ways (is_in (take i places) v || (get_or places i 0 == v)) both
      (or_left (is_in (take i places) v) (get_or places i 0 == v) m)))
