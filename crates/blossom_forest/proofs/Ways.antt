-- The way from a set to the root of its tree, set by set.
use Rattle.std.proofs.Common.{◌≡◌, ℕ, suc, ◌<◌, ◌≤◌, ◌+◌, ◌-◌, ◌==◌, true, false, cond, List, [], ◌∷◌, ◌++◌, sym, ap, ◌∙◌, arith, subst, append_assoc, append-nil, eq-eqb, All}
use Rattle.std.proofs.lemmas.Bool.{ne_eqb}
use Rattle.std.proofs.lemmas.List.Elements.{All-append, All-cons, All-nil}
use Rattle.blossom_nest.specs.Nests.{Nested, outermost}
use Rattle.blossom_forest.specs.Trees.{Forested, tie_up, way_up}
use Rattle.blossom_forest.specs.declared.step.Tie.{Tie}

module _ (s : Nested) (t : Forested) (n step here : ℕ) where
  first_up : step < n → way_up (n - step) s t here
      ≡ here ∷ cond ((tie_up t here).here == (tie_up t here).there) []
      (way_up (n - (step + 1)) s t (outermost s (tie_up t here).there))
  first_up low = let e : n - step ≡ suc (n - (step + 1)) = omega (arith, low) in
      ap (λ k. way_up k s t here) e

  pub goes_on : (path whole : List ℕ) (tie : Tie) → step < n → tie ≡ tie_up t here →
      (tie.here ≡ tie.there → ⊥) → path ++ way_up (n - step) s t here ≡ whole →
      (path ++ here ∷ []) ++ way_up (n - (step + 1)) s t (outermost s tie.there) ≡ whole
  goes_on path whole tie low is differ e =
      append_assoc path (here ∷ []) (way_up (n - (step + 1)) s t (outermost s tie.there))
      ∙ ap (λ zs. path ++ zs) (sym (first_up low
      ∙ ap (λ b. here ∷ cond b [] (way_up (n - (step + 1)) s t (outermost s (tie_up t here).there)))
      (subst (λ (z : Tie). z.here == z.there ≡ false) is (ne_eqb tie.here tie.there differ))
      ∙ ap (λ (z : Tie). here ∷ way_up (n - (step + 1)) s t (outermost s z.there)) (sym is))) ∙ e

  pub comes_to_end : (path whole : List ℕ) (tie : Tie) → step < n → tie ≡ tie_up t here →
      tie.here ≡ tie.there → path ++ way_up (n - step) s t here ≡ whole →
      path ++ here ∷ [] ≡ whole
  comes_to_end path whole tie low is same e =
      ap (λ zs. path ++ zs) (sym (first_up low
      ∙ ap (λ b. here ∷ cond b [] (way_up (n - (step + 1)) s t (outermost s (tie_up t here).there)))
      (subst (λ (z : Tie). z.here == z.there ≡ true) is (eq-eqb tie.here tie.there same)))) ∙ e

  pub is_cut : (path whole : List ℕ) → n ≤ step → path ++ way_up (n - step) s t here ≡ whole →
      path ≡ whole
  is_cut path whole high e =
      sym (append-nil path) ∙ ap (λ k. path ++ way_up k s t here)
      (let z : 0 ≡ n - step = omega (arith, high) in z) ∙ e

pub all_more : (n : ℕ) (path new : List ℕ) (here : ℕ) → new ≡ path ++ here ∷ [] → here < n →
    All (λ s. s < n) path → All (λ s. s < n) new
all_more n path new here e low all = subst (All (λ s. s < n)) (sym e)
    (All-append (λ s. s < n) path (here ∷ []) all
    (All-cons (λ s. s < n) here [] low (All-nil (λ s. s < n))))
