-- A nest of which a set has come apart, and the forest over it.
use Rattle.std.specs.Prelude.{◌≡◌, ℕ, false, slice_index}
use Rattle.graph_model.specs.Graph.{is_in}
use Rattle.shown_openings.specs.Opening.{ComesApart, IsTop, Writes}
use Rattle.blossom_nest.specs.Nests.{IsExpanded, IsName, IsNest, IsOutermost, Nested, children_of, outermost}
use Rattle.blossom_forest.specs.Trees.{Forested}
use Rattle.forest_laws.specs.Keeping.{kept, mark_at, tie_at}

-- what the nest and the forest are after it
abbrev pub written_as : Nested → Forested → Writes
written_as s t = record {
  children = children_of s;
  top = outermost s;
  mark = mark_at t.mark;
  label = slice_index t.label;
  link = tie_at t.link;
}

-- the forest has written nothing of sets that are no children of this one
pub record WritesInside (s : Nested) (set : ℕ) (old new : Forested) : Type 0 where
  pub marks : (c : ℕ) → is_in (children_of s set) c ≡ false →
      mark_at new.mark c ≡ mark_at old.mark c
  pub labels : (c : ℕ) → is_in (children_of s set) c ≡ false →
      slice_index new.label c ≡ slice_index old.label c
  pub links : (c : ℕ) → is_in (children_of s set) c ≡ false → tie_at new.link c ≡ tie_at old.link c

-- what Nest::expand makes comes apart, as a search asks it of what is kept
abbrev pub NestOpenedLaw : Type 0
NestOpenedLaw = (s s' : Nested) (t t' : Forested) (set : ℕ) → IsNest s → IsNest s' →
    IsName s set → IsOutermost s set → IsExpanded s set s' → WritesInside s set t t' →
    IsTop (kept s t) set × ComesApart (kept s t) set (written_as s' t')
