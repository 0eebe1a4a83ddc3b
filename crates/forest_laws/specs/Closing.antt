-- A nest of which a ring has become one set, and the forest over it.
use Rattle.std.specs.Prelude.{◌≡◌, ℕ, List, ℤ}
use Rattle.std.specs.List.{AllByRecursion}
use Rattle.matching_model.specs.Forests.{Search}
use Rattle.shown_search.specs.Shown.{Shows}
use Rattle.shown_rings.specs.Shrinking.{IsFree, first_of, shrunk}
use Rattle.blossom_nest.specs.Nests.{IsNest, IsOutermost, IsShrunk, Nested}
use Rattle.blossom_forest.specs.Trees.{Forested, IsInRange, ringed}
use Rattle.blossom_forest.specs.declared.step.Tie.{Tie}
use Rattle.forest_laws.specs.Keeping.{kept, tie_at}

-- the forest with other joints
abbrev pub with_joints : Forested → List Tie → Forested
with_joints t joint = record t { joint = joint }

-- what Nest::shrink makes of a ring, where the forest notes the new set as one whose ring begins
-- with the first of these: the name was free, and what is kept shows what the ring as one set shows
abbrev pub NestShrunkLaw : Type 0
NestShrunkLaw = (s s' : Nested) (t : Forested) (joint : List Tie) (ring : List ℕ) (set : ℕ) →
    IsNest s → IsInRange t → t.vertices ≡ s.vertices → IsShrunk s ring set s' →
    AllByRecursion (IsOutermost s) ring → IsFree (kept s t) ring set
    × ((number : ℕ → ℤ) (search : Search) →
    Shows (shrunk (kept s t) (tie_at joint) ring set) number search →
    Shows (kept s' (ringed (with_joints t joint) (first_of ring) set)) number search)
