-- The way from an outer set to the root of its tree, read off what is kept.
use Rattle.std.specs.Prelude.{◌≡◌, ◌<◌, ℕ, zero, suc, ◌==◌, cond, List, [], ◌∷◌, map, reverse, ℤ}
use Rattle.matching_model.specs.Blossoms.{Side, has}
use Rattle.matching_model.specs.Forests.{Tree, Search, IsSound, IsOuter, Mark, Outer, Inner, Away}
use Rattle.shown_search.specs.Shown.{Kept, Shows}
use Rattle.shown_search.specs.Growing.{TreeFirst}
use Rattle.shown_matches.specs.Augmenting.{AreOn, way_vertices}

-- from a set to the set above it in its tree, by a vertex of each: an inner one has its link, an
-- outer one its base and that one's mate; a root's base is its own mate
abbrev pub tie_by : Mark → Kept → ℕ → ℕ × ℕ
tie_by Inner k c = k.link c
tie_by Outer k c = (k.base c, k.mate (k.base c))
tie_by Away k c = (k.base c, k.mate (k.base c))

abbrev pub tie_up : Kept → ℕ → ℕ × ℕ
tie_up k c = tie_by (k.mark c) k c

-- the sets on the way from a set to its root, at most so many
abbrev pub climb : ℕ → Kept → ℕ → List ℕ
climb zero k c = []
climb (suc n) k c = c ∷ cond ((tie_up k c).0 == (tie_up k c).1) []
    (climb n k (k.top (tie_up k c).1))

-- an outer set of a tree of s that has the vertex, and the sets on the way from it to the root
pub record IsRooted (k : Kept) (s : Search) (u : ℕ) : Type 0 where
  pub tree : Tree
  pub trees : List Tree
  pub tree_first : TreeFirst s.trees tree trees
  pub side : Side
  pub place : IsOuter tree.root tree.branches side
  pub on : AreOn tree.root tree.branches side place u
  pub way : climb k.vertices k (k.top u)
      ≡ reverse (map k.top (way_vertices tree.root tree.branches side place u))

abbrev pub RootedLaw : Type 0
RootedLaw = (dist : ℕ → ℕ → ℕ) → ((u v : ℕ) → dist u v ≡ dist v u) → (k : Kept) (number : ℕ → ℤ)
    (s : Search) (u : ℕ) → Shows k number s → IsSound dist k.vertices s → u < k.vertices →
    k.mark (k.top u) ≡ Outer → IsRooted k s u
