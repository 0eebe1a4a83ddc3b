-- A turn of the search: a dual change that no step undercuts, and a step that it makes free.
use Rattle.std.specs.Prelude.{◌≡◌, ℕ, ◌*◌, false, List, [], ◌∷◌, ℤ, pos, ◌+ℤ◌, neg_ℤ, ◌≤ℤ◌, ◌⊎◌}
use Rattle.graph_model.specs.Graph.{is_in}
use Rattle.matching_model.specs.Blossoms.{Side, has, members, reach, ring_of, IsSigned}
use Rattle.matching_model.specs.Forests.{Search, IsSound, Mark, Outer, Inner, Away, marked, Allows}
use Rattle.matching_model.specs.Steps.{Event}

-- the set stands among the outermost ones, with this mark
abbrev pub Stands : Mark → Side → List (Mark × Side) → Type 0
Stands m x [] = ⊥
Stands m x (e ∷ es) = (e ≡ (m, x)) ⊎ Stands m x es

-- vertices of two outermost sets, by the marks of these
pub record AreIn (s : Search) (m k : Mark) (x y : Side) (u w : ℕ) : Type 0 where
  pub one_stands : Stands m x (marked s)
  pub two_stands : Stands k y (marked s)
  pub in_one : has x u
  pub in_two : has y w
  pub elsewhere : is_in (members x.body) w ≡ false

-- what the slack of two vertices has above z
abbrev pub HasLeft : (ℕ → ℕ → ℕ) → ℤ → Side → Side → ℕ → ℕ → Type 0
HasLeft dist z x y u w = ((reach x u +ℤ reach y w) +ℤ z) ≤ℤ pos (2 * dist u w)

-- no two vertices and no inner set allow less than this change: twice of it between outer sets,
-- once between an outer one and one outside the trees
pub record IsUncut (dist : ℕ → ℕ → ℕ) (change : ℤ) (s : Search) : Type 0 where
  pub joins : (x y : Side) (u w : ℕ) → AreIn s Outer Outer x y u w →
      HasLeft dist (change +ℤ change) x y u w
  pub grows : (x y : Side) (u w : ℕ) → AreIn s Outer Away x y u w → HasLeft dist change x y u w
  pub expands : (x : Side) → Stands Inner x (marked s) → IsSigned (x.number +ℤ neg_ℤ change) x.body

-- a step that has just this change
pub data IsChosen (dist : ℕ → ℕ → ℕ) (change : ℤ) (s : Search) : Type 0 where
  joins : (x y : Side) (u w : ℕ) → AreIn s Outer Outer x y u w →
      (reach x u +ℤ reach y w) +ℤ (change +ℤ change) ≡ pos (2 * dist u w) → IsChosen dist change s
  grows : (x y : Side) (u w : ℕ) → AreIn s Outer Away x y u w →
      (reach x u +ℤ reach y w) +ℤ change ≡ pos (2 * dist u w) → IsChosen dist change s
  expands : (x : Side) (ss : List Side) → Stands Inner x (marked s) → x.body ≡ ring_of ss →
      x.number ≡ change → IsChosen dist change s

-- what holds by vertices is a change that no step forbids
abbrev pub UncutLaw : Type 0
UncutLaw = (dist : ℕ → ℕ → ℕ) → ((u v : ℕ) → dist u v ≡ dist v u) → (n : ℕ) (s : Search) →
    IsSound dist n s → (change : ℤ) → IsUncut dist change s → Allows dist change (marked s)

-- the least step of a turn is free after its change
abbrev pub TurnLaw : Type 0
TurnLaw = (dist : ℕ → ℕ → ℕ) → ((u v : ℕ) → dist u v ≡ dist v u) → (n : ℕ) (s : Search) →
    IsSound dist n s → (change : ℤ) → pos 0 ≤ℤ change → IsUncut dist change s →
    IsChosen dist change s → Event dist s
