-- Where the ways to the root from two outer sets of one tree meet, and the ring that they close.
use Rattle.std.specs.Prelude.{◌≡◌, ◌<◌, ℕ, List, ◌∷◌, ◌++◌, reverse, ℤ}
use Rattle.matching_model.specs.Blossoms.{Side}
use Rattle.matching_model.specs.Forests.{Tree, Search, IsSound, AreTwo, Outer}
use Rattle.matching_laws.specs.Constructions.{Sense, ring_between}
use Rattle.shown_search.specs.Shown.{Kept, Shows}
use Rattle.shown_search.specs.Growing.{TreeFirst}
use Rattle.shown_search.specs.Taken.{AreEnds, from_first}
use Rattle.shown_rings.specs.Shrinking.{Own, names_of}
use Rattle.shown_ways.specs.Climbing.{climb}

-- the lists don't begin alike
abbrev pub StartApart : List ℕ → List ℕ → Type 0
StartApart xs ys = (z : ℕ) (xs' ys' : List ℕ) → xs ≡ z ∷ xs' → ys ≡ z ∷ ys' → ⊥

-- Both ways go down from the root to a common set, and then apart. The ring of the pair of u and w
-- goes down the way of u's set from there, and up the way of w's.
pub record Meets (k : Kept) (s : Search) (u w : ℕ) : Type 0 where
  pub tree : Tree
  pub trees : List Tree
  pub tree_first : TreeFirst s.trees tree trees
  pub first : Side
  pub second : Side
  pub places : AreTwo tree.root tree.branches first second
  pub sense : Sense
  pub ends : AreEnds sense first second u w
  pub above : List ℕ
  pub common : ℕ
  pub one : List ℕ
  pub two : List ℕ
  pub one_way : climb k.vertices k (k.top u) ≡ reverse (above ++ common ∷ one)
  pub two_way : climb k.vertices k (k.top w) ≡ reverse (above ++ common ∷ two)
  pub apart : StartApart one two
  pub names : names_of k (ring_between tree.root tree.branches first second places sense
      (from_first sense u w).0 (from_first sense u w).1) ≡ common ∷ (one ++ reverse two)
  pub own : Own (ring_between tree.root tree.branches first second places sense
      (from_first sense u w).0 (from_first sense u w).1)

-- where both are in different outer sets of one tree
abbrev pub MeetingLaw : Type 0
MeetingLaw = (dist : ℕ → ℕ → ℕ) → ((u v : ℕ) → dist u v ≡ dist v u) → (k : Kept)
    (number : ℕ → ℤ) (s : Search) (u w : ℕ) → Shows k number s → IsSound dist k.vertices s →
    u < k.vertices → w < k.vertices → k.mark (k.top u) ≡ Outer → k.mark (k.top w) ≡ Outer →
    k.label (k.top u) ≡ k.label (k.top w) → (k.top u ≡ k.top w → ⊥) → Meets k s u w

-- Two ways from the root meet at one set only.
abbrev pub OneMeetingLaw : Type 0
OneMeetingLaw = (above other : List ℕ) (c c' : ℕ) (one one' two two' : List ℕ) →
    above ++ c ∷ one ≡ other ++ c' ∷ one' → above ++ c ∷ two ≡ other ++ c' ∷ two' →
    StartApart one two → StartApart one' two' → (c ≡ c') × (one ≡ one') × (two ≡ two')
