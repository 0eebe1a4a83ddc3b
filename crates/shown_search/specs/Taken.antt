-- Steps that are taken anywhere in a search, and that each keeps it sound.
use Rattle.std.specs.Prelude.{◌≡◌, ℕ, List, ◌∷◌, ◌++◌}
use Rattle.matching_model.specs.Blossoms.{Side, has, IsTight}
use Rattle.matching_model.specs.Forests.{Tree, Search, IsSound, IsOuter, AreTwo, IsInner}
use Rattle.matching_laws.specs.Constructions.{Parted, Sense, to_first, to_second, as_inner, close_ring, hold_of, in_place, matched, opened, turn_about}
use Rattle.matching_laws.specs.StepLaws.{IsNext, forest, with_branches}
use Rattle.shown_search.specs.Growing.{IsGrown, TreeFirst}

-- two trees of s were joined by the pair of u and w, and all their sets are matched
pub record IsAugmented (s s' : Search) (u w : ℕ) : Type 0 where
  pub one : Tree
  pub others : List Tree
  pub one_first : TreeFirst s.trees one others
  pub two : Tree
  pub trees : List Tree
  pub two_first : TreeFirst others two trees
  pub first : Side
  pub second : Side
  pub place : IsOuter one.root one.branches first
  pub other_place : IsOuter two.root two.branches second
  pub in_first : has first u
  pub in_second : has second w
  pub after : s' ≡ forest trees (matched first u second w
      ∷ (turn_about one.root one.branches first place
      ++ (turn_about two.root two.branches second other_place ++ s.mates)))

-- of two outer sets of a tree the first has u and the second w, or the other way round
abbrev pub AreEnds : Sense → Side → Side → ℕ → ℕ → Type 0
AreEnds to_first x y u w = has x u × has y w
AreEnds to_second x y u w = has y u × has x w

-- the pair of u and w, from the first to the second
abbrev pub from_first : Sense → ℕ → ℕ → ℕ × ℕ
from_first to_first u w = (u, w)
from_first to_second u w = (w, u)

-- the ring that the pair of u and w closes in a tree of s, which leads down to u's set, is one set
pub record IsShrunk (s s' : Search) (u w : ℕ) : Type 0 where
  pub tree : Tree
  pub trees : List Tree
  pub tree_first : TreeFirst s.trees tree trees
  pub first : Side
  pub second : Side
  pub places : AreTwo tree.root tree.branches first second
  pub sense : Sense
  pub ends : AreEnds sense first second u w
  pub after : s' ≡ forest (close_ring tree first second places sense (from_first sense u w).0
      (from_first sense u w).1 ∷ trees) s.mates

-- an inner ring of s, of which v is a vertex, came apart
pub record IsExpanded (s s' : Search) (v : ℕ) : Type 0 where
  pub tree : Tree
  pub trees : List Tree
  pub tree_first : TreeFirst s.trees tree trees
  pub sides : List Side
  pub out : ℕ
  pub into : ℕ
  pub place : IsInner tree.branches (as_inner sides out into)
  pub holds : has (as_inner sides out into) v
  pub parted : Parted sides (hold_of tree.branches (as_inner sides out into) place)
  pub after : (let new =
      opened sides (hold_of tree.branches (as_inner sides out into) place) parted in
      s' ≡ forest (with_branches tree (in_place tree.branches (as_inner sides out into) place
      new.branches) ∷ trees) (new.mates ++ s.mates))

-- where the pair is without slack, the search after the step is sound and has fewer turns left
abbrev pub GrowTakenLaw : Type 0
GrowTakenLaw = (dist : ℕ → ℕ → ℕ) → ((u v : ℕ) → dist u v ≡ dist v u) → (n : ℕ) (s s' : Search)
    (u v : ℕ) → IsSound dist n s → (g : IsGrown s s' u v) → IsTight dist g.outer u g.pair.one v →
    IsNext dist n s s'

abbrev pub AugmentTakenLaw : Type 0
AugmentTakenLaw = (dist : ℕ → ℕ → ℕ) → ((u v : ℕ) → dist u v ≡ dist v u) → (n : ℕ)
    (s s' : Search) (u w : ℕ) → IsSound dist n s → (g : IsAugmented s s' u w) →
    IsTight dist g.first u g.second w → IsNext dist n s s'

abbrev pub ShrinkTakenLaw : Type 0
ShrinkTakenLaw = (dist : ℕ → ℕ → ℕ) → ((u v : ℕ) → dist u v ≡ dist v u) → (n : ℕ)
    (s s' : Search) (u w : ℕ) → IsSound dist n s → (g : IsShrunk s s' u w) →
    IsTight dist g.first (from_first g.sense u w).0 g.second (from_first g.sense u w).1 →
    IsNext dist n s s'

-- an inner ring whose number is 0
abbrev pub ExpandTakenLaw : Type 0
ExpandTakenLaw = (dist : ℕ → ℕ → ℕ) → ((u v : ℕ) → dist u v ≡ dist v u) → (n : ℕ)
    (s s' : Search) (v : ℕ) → IsSound dist n s → IsExpanded s s' v → IsNext dist n s s'
