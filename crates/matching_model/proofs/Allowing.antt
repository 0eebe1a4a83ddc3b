-- A dual change that each two entries and each inner set allow is one that no step forbids.
use Rattle.std.proofs.Common.{◌≡◌, List, [], ◌∷◌, refl, inl, inr}
use Rattle.std.specs.Prelude.{ℕ, ℤ, ◌+ℤ◌, neg_ℤ}
use Rattle.matching_model.specs.Blossoms.{Side, IsSigned}
use Rattle.matching_model.specs.Forests.{Outer, Inner, Away, HasSlack, PairAllows, AllowFrom, OneAllows, Allows}
use Rattle.matching_model.proofs.Events.{Entry, IsAt, AreAt}

module _ (dist : ℕ → ℕ → ℕ) (change : ℤ) where
  -- what is asked of the entries of a list, by their marks
  pub record AreFar (xs : List Entry) : Type 0 where
    pub outer : (x y : Side) → AreAt (Outer, x) (Outer, y) xs →
        HasSlack dist change (change +ℤ change) x y
    pub outer_away : (x y : Side) → AreAt (Outer, x) (Away, y) xs → HasSlack dist change change x y
    pub away_outer : (x y : Side) → AreAt (Away, x) (Outer, y) xs → HasSlack dist change change x y
    pub inner : (x : Side) → IsAt (Inner, x) xs → IsSigned (x.number +ℤ neg_ℤ change) x.body

  pair_allows : (xs : List Entry) → AreFar xs → (a b : Entry) → AreAt a b xs →
      PairAllows dist change a b
  pair_allows xs far (Outer, x) (Outer, y) h = far.outer x y h
  pair_allows xs far (Outer, x) (Away, y) h = far.outer_away x y h
  pair_allows xs far (Away, x) (Outer, y) h = far.away_outer x y h
  pair_allows xs far (Outer, x) (Inner, y) h = tt
  pair_allows xs far (Inner, x) b h = tt
  pair_allows xs far (Away, x) (Inner, y) h = tt
  pair_allows xs far (Away, x) (Away, y) h = tt

  one_allows : (xs : List Entry) → AreFar xs → (a : Entry) → IsAt a xs → OneAllows dist change a
  one_allows xs far (Inner, x) h = far.inner x h
  one_allows xs far (Outer, x) h = tt
  one_allows xs far (Away, x) h = tt

  allow_each : (a : Entry) (xs : List Entry) →
      ((b : Entry) → IsAt b xs → PairAllows dist change a b) → AllowFrom dist change a xs
  allow_each a [] f = tt
  allow_each a (b ∷ bs) f = (f b (inl refl), allow_each a bs (λ c h. f c (inr h)))

  pub allows_from_pairs : (xs : List Entry) → AreFar xs → Allows dist change xs
  allows_from_pairs [] far = tt
  allows_from_pairs (a ∷ bs) far = (
    one_allows (a ∷ bs) far a (inl refl),
    allow_each a bs (λ b h. pair_allows (a ∷ bs) far a b (inl (refl, h))),
    allows_from_pairs bs (record {
      outer = λ x y h. far.outer x y (inr h);
      outer_away = λ x y h. far.outer_away x y (inr h);
      away_outer = λ x y h. far.away_outer x y (inr h);
      inner = λ x h. far.inner x (inr h);
    }),
  )
