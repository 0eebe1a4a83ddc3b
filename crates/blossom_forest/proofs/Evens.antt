-- Steps round a ring, an even number or an odd one.
use Rattle.std.proofs.Common.{◌≡◌, ◌<◌, ◌+◌, ◌-◌, ◌==◌, ℕ, suc, Bool, not, cond, Some, unwrap_or, sym, ap, ◌∙◌, arith}
use Rattle.std.proofs.lemmas.Bool.{ne_eqb}
use Rattle.blossom_nest.specs.Nests.{Nested, children_of, next_in, parent_of}
use Rattle.blossom_forest.specs.Trees.{child_after, even_way}

one_left : (n i : ℕ) → i < n → n - i ≡ suc (n - (i + 1))
one_left n i low = omega (arith, low)

module _ (s : Nested) (to n i : ℕ) (even : Bool) (here : ℕ) (all : Bool) (low : i < n)
    (rest : even_way (n - i) s to even here ≡ all) where
  abbrev onward : Bool
  onward = even_way (n - (i + 1)) s to (not even) (child_after s here)

  one_step : cond (here == to) even onward ≡ all
  one_step = sym (ap (λ k. even_way k s to even here) (one_left n i low)) ∙ rest

  pub goes_round : (here ≡ to → ⊥) → (next : ℕ) →
      next_in here (children_of s (parent_of s here)) ≡ Some next →
      even_way (n - (i + 1)) s to (not even) next ≡ all
  goes_round at next is =
      ap (λ c. even_way (n - (i + 1)) s to (not even) c) (sym (ap (λ o. unwrap_or o 0) is))
      ∙ sym (ap (λ b. cond b even onward) (ne_eqb here to at)) ∙ one_step
