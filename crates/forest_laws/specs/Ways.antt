-- The way to the root of a tree, by a forest and by what is kept.
use Rattle.std.specs.Prelude.{◌≡◌, ℕ}
use Rattle.shown_ways.specs.Climbing.{climb}
use Rattle.blossom_nest.specs.Nests.{Nested}
use Rattle.blossom_forest.specs.Trees.{Forested, way_up}
use Rattle.forest_laws.specs.Keeping.{kept}

-- what Forest::root_path gives is the way that is read off what is kept
abbrev pub ClimbedLaw : Type 0
ClimbedLaw = (n : ℕ) (s : Nested) (t : Forested) (set : ℕ) →
    way_up n s t set ≡ climb n (kept s t) set
