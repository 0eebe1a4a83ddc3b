-- A search over the members of a table: its sets, its trees and its numbers are of the same
-- vertices.
use Rattle.std.specs.Prelude.{◌≡◌, ℕ, ◌/◌, ◌<◌, ◌≤◌, ℤ, List, All, length}
use Rattle.blossom_nest.specs.Nests.{IsName, IsOutermost, Nested, most_vertices}
use Rattle.blossom_forest.specs.Trees.{Forested}
use Rattle.blossom_forest.specs.declared.step.Mark.{Mark}
use Rattle.blossom_forest.specs.declared.step.Step.{Step}
use Rattle.blossom_forest.specs.declared.step.Step.TheVariants.{Grow, Shrink, Expand, Augment}
use Rattle.dist_search.specs.Tables.{Distances}

-- sets, trees and distances of n vertices
pub record AreOf (n : ℕ) (s : Nested) (t : Forested) (d : Distances) : Type 0 where
  pub nest : s.vertices ≡ n
  pub forest : t.vertices ≡ n
  pub dist : length d.members ≡ n

-- a number for each of n vertices, and for each name of a set with children
pub record AreNumbers (n : ℕ) (vertex set : List ℤ) : Type 0 where
  pub vertices : length vertex ≡ n
  pub sets : length set ≡ n / 2

-- the step names two vertices, or an outermost set with children
abbrev pub IsPossible : Nested → Step → Type 0
IsPossible s (Grow u v) = (u < s.vertices) × (v < s.vertices)
IsPossible s (Shrink u v) = (u < s.vertices) × (v < s.vertices)
IsPossible s (Augment u v) = (u < s.vertices) × (v < s.vertices)
IsPossible s (Expand set) = IsName s set × IsOutermost s set

-- what is kept for each of n vertices
pub record AreKept (n : ℕ) (total key : List ℤ) (near : List ℕ) (mark : List Mark)
    (cursor : ℕ) : Type 0 where
  pub few : n ≤ most_vertices
  pub totals : length total ≡ n
  pub keys : length key ≡ n
  pub nears : length near ≡ n
  pub marks : length mark ≡ n
  pub near_below : All (λ v. v < n) near
  pub cursor_below : cursor ≤ n

-- what is noted of when keys were made exact and vertices left the outer sets, and two lists with a
-- place for each of n vertices
pub record AreNoted (n : ℕ) (exact left entered recent : List ℕ) : Type 0 where
  pub exacts : length exact ≡ n
  pub lefts : length left ≡ n
  pub entereds : length entered ≡ n
  pub recents : length recent ≡ n
  pub entered_below : All (λ v. v < n) entered
  pub recent_below : All (λ v. v < n) recent

-- sets, trees and what is kept of the vertices
pub record IsSearch (s : Nested) (t : Forested) (vertex set : List ℤ) (kept : ℕ) : Type 0 where
  pub forest : t.vertices ≡ s.vertices
  pub numbers : AreNumbers s.vertices vertex set
  pub slacks : kept ≡ s.vertices
