-- A turn of a search that is shown: what is asked of a least step, by vertices and names alone.
use Rattle.std.specs.Prelude.{◌≡◌, ◌<◌, ◌≤◌, ℕ, ◌*◌, ℤ, pos, ◌+ℤ◌, ◌≤ℤ◌}
use Rattle.matching_model.specs.Blossoms.{Side, has, reach}
use Rattle.matching_model.specs.Forests.{Search, IsSound, Mark, Outer, Inner, Away, marked}
use Rattle.matching_model.specs.Steps.{Event}
use Rattle.matching_laws.specs.Turns.{Stands}
use Rattle.shown_search.specs.Shown.{Kept, Shows}

-- a vertex's total: its number and those of all sets that hold it
abbrev pub AreTotals : Search → (ℕ → ℤ) → Type 0
AreTotals s total = (m : Mark) (x : Side) → Stands m x (marked s) → (u : ℕ) → has x u →
    total u ≡ reach x u

-- two vertices of different outermost sets, by the marks of these
pub record AreMarked (k : Kept) (m m' : Mark) (u w : ℕ) : Type 0 where
  pub one_below : u < k.vertices
  pub two_below : w < k.vertices
  pub one_marked : k.mark (k.top u) ≡ m
  pub two_marked : k.mark (k.top w) ≡ m'
  pub differ : k.top u ≡ k.top w → ⊥

-- an inner set with children, by a vertex of it
pub record IsRing (k : Kept) (v : ℕ) : Type 0 where
  pub below : v < k.vertices
  pub ring : k.vertices ≤ k.top v
  pub inner : k.mark (k.top v) ≡ Inner

-- twice the dual change of a step, of two vertices, is at most their slack where both are outer,
-- and at most twice their slack where one is outside the trees; and at most twice the number of
-- each inner set with children
pub record IsLeast (k : Kept) (number total : ℕ → ℤ) (dist : ℕ → ℕ → ℕ) (change : ℤ) :
    Type 0 where
  pub joins : (u w : ℕ) → AreMarked k Outer Outer u w →
      ((total u +ℤ total w) +ℤ (change +ℤ change)) ≤ℤ pos (2 * dist u w)
  pub grows : (u w : ℕ) → AreMarked k Outer Away u w →
      ((total u +ℤ total w) +ℤ change) ≤ℤ pos (2 * dist u w)
  pub expands : (v : ℕ) → IsRing k v → change ≤ℤ number (k.top v)

-- a step that has just this change: two outer vertices (in one tree or in two), an outer one and
-- one outside the trees, or an inner set with children
pub data IsStep (k : Kept) (number total : ℕ → ℤ) (dist : ℕ → ℕ → ℕ) (change : ℤ) : Type 0 where
  joins : (u w : ℕ) → AreMarked k Outer Outer u w →
      (total u +ℤ total w) +ℤ (change +ℤ change) ≡ pos (2 * dist u w) →
      IsStep k number total dist change
  grows : (u w : ℕ) → AreMarked k Outer Away u w →
      (total u +ℤ total w) +ℤ change ≡ pos (2 * dist u w) → IsStep k number total dist change
  expands : (v : ℕ) → IsRing k v → number (k.top v) ≡ change → IsStep k number total dist change

-- such a step is an event of the search
abbrev pub LeastLaw : Type 0
LeastLaw = (k : Kept) (number total : ℕ → ℤ) (s : Search) → Shows k number s → AreTotals s total →
    (dist : ℕ → ℕ → ℕ) → ((u v : ℕ) → dist u v ≡ dist v u) → IsSound dist k.vertices s →
    (change : ℤ) → pos 0 ≤ℤ change → IsLeast k number total dist change →
    IsStep k number total dist change → Event dist s
