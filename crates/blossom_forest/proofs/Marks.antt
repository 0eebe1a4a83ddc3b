-- Marks of sets that leave the forest one by one.
use Rattle.std.proofs.Common.{◌≡◌, ℕ, ◌<◌, ◌+◌, ◌&&◌, Bool, true, false, cond, List, length, sym, ap, ◌∙◌, arith, subst, ⊎_elim}
use Rattle.std.specs.Prelude.{nat_lt, slice_index_or, slice_set}
use Rattle.std.proofs.lemmas.Bool.Decides.{nat_tests}
use Rattle.std.proofs.lemmas.Bool.{cases_eq}
use Rattle.std.proofs.lemmas.List.{get_or-set_same, get_or-set_other}
use Rattle.blossom_forest.specs.declared.step.Mark.{Mark}
use Rattle.blossom_forest.specs.declared.step.Mark.TheVariants.{Outer, Away}

-- so many have left, of those that are to leave
abbrev pub AreOut : (old new : List Mark) (leaves : ℕ → Bool) (count n : ℕ) → Type 0
AreOut old new leaves count n = (c : ℕ) → c < n →
    slice_index_or new c Outer ≡ cond (nat_lt c count && leaves c) Away (slice_index_or old c Outer)

module _ (old new : List Mark) (leaves : ℕ → Bool) (n count : ℕ) where
  pub one_out : (m : Mark) → length new ≡ n → count < n →
      m ≡ cond (leaves count) Away (slice_index_or new count Outer) →
      AreOut old new leaves count n → AreOut old (slice_set new count m) leaves (count + 1) n
  one_out m len low is h c l = ⊎_elim (λ e. here e) (λ ne. there ne) (cases_eq count c)
    where
      here : count ≡ c → slice_index_or (slice_set new count m) c Outer
          ≡ cond (nat_lt c (count + 1) && leaves c) Away (slice_index_or old c Outer)
      here e = subst (λ z. slice_index_or (slice_set new count m) z Outer
          ≡ cond (nat_lt z (count + 1) && leaves z) Away (slice_index_or old z Outer)) e
          (get_or-set_same new count m Outer (omega (arith, low, len)) ∙ is
          ∙ ap (λ z. cond (leaves count) Away z) (h count low
          ∙ ap (λ b. cond (b && leaves count) Away (slice_index_or old count Outer)) not_yet)
          ∙ sym (ap (λ b. cond (b && leaves count) Away (slice_index_or old count Outer)) now))
        where
          not_yet : nat_lt count count ≡ false
          not_yet = grind (arith, nat_tests)

          now : nat_lt count (count + 1) ≡ true
          now = grind (arith, nat_tests)

      there : (count ≡ c → ⊥) → slice_index_or (slice_set new count m) c Outer
          ≡ cond (nat_lt c (count + 1) && leaves c) Away (slice_index_or old c Outer)
      there ne = get_or-set_other new count c m Outer (λ e. ne (sym e)) ∙ h c l
          ∙ ap (λ b. cond (b && leaves c) Away (slice_index_or old c Outer)) same
        where
          same : nat_lt c count ≡ nat_lt c (count + 1)
          same = grind (arith, nat_tests, ne)
