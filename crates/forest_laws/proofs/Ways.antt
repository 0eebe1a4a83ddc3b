-- The way to the root of a tree.
use Rattle.std.proofs.Common.{◌≡◌, ℕ, zero, suc, ◌==◌, cond, [], ◌∷◌, refl, ap, ◌∙◌}
use Rattle.std.specs.Prelude.{slice_index_or}
use Rattle.shown_ways.specs.Climbing.{tie_by as kept_tie_by, tie_up as kept_tie_up}
use Rattle.blossom_nest.specs.Nests.{Nested, outermost}
use Rattle.blossom_forest.specs.Trees.{Forested, tie_by, way_up}
use Rattle.blossom_forest.specs.declared.step.Mark.{Mark as Stand}
use Rattle.blossom_forest.specs.declared.step.Mark.TheVariants.{Outer, Inner, Away}
use Rattle.forest_laws.specs.Keeping.{ends_of, kept, place_of}
use Rattle.forest_laws.specs.Ways.{ClimbedLaw}

tie_same : (s : Nested) (t : Forested) (c : ℕ) (m : Stand) →
    ends_of (tie_by m t c) ≡ kept_tie_by (place_of m) (kept s t) c
tie_same s t c Outer = refl
tie_same s t c Inner = refl
tie_same s t c Away = refl

pub climbed_law : ClimbedLaw
climbed_law zero s t c = refl
climbed_law (suc n) s t c =
    ap (λ (p : ℕ × ℕ). c ∷ cond (p.0 == p.1) [] (way_up n s t (outermost s p.1)))
    (tie_same s t c (slice_index_or t.mark c Outer))
    ∙ ap (λ xs. c ∷ cond ((kept_tie_up (kept s t) c).0 == (kept_tie_up (kept s t) c).1) [] xs)
    (climbed_law n s t (outermost s (kept_tie_up (kept s t) c).1))
