-- What a nest and a forest over it keep of a search.
use Rattle.std.specs.Prelude.{◌≡◌, ◌<◌, ℕ, List, slice_index, slice_index_or, ℤ, pos}
use Rattle.matching_model.specs.Forests.{Search, Mark, start}
use Rattle.matching_model.specs.Forests.Mark.{Outer as OuterPlace, Inner as InnerPlace, Away as AwayPlace}
use Rattle.shown_search.specs.Shown.{Kept, Shows}
use Rattle.shown_search.specs.Growing.{IsGrown}
use Rattle.blossom_nest.specs.Nests.{IsNest, Nested, children_of, outermost, single}
use Rattle.blossom_forest.specs.Trees.{Forested, IsInRange, grown, nowhere, unmatched}
use Rattle.blossom_forest.specs.declared.step.Mark.{Mark as Stand}
use Rattle.blossom_forest.specs.declared.step.Mark.TheVariants.{Outer, Inner, Away}
use Rattle.blossom_forest.specs.declared.step.Tie.{Tie}

-- where a set stands, in the words of the search
abbrev pub place_of : Stand → Mark
place_of Outer = OuterPlace
place_of Inner = InnerPlace
place_of Away = AwayPlace

abbrev pub ends_of : Tie → ℕ × ℕ
ends_of tie = (tie.here, tie.there)

-- entries by name; past the end there is nothing to show
abbrev pub mark_at : List Stand → ℕ → Mark
mark_at marks s = place_of (slice_index_or marks s Outer)

abbrev pub tie_at : List Tie → ℕ → ℕ × ℕ
tie_at ties s = ends_of (slice_index_or ties s nowhere)

abbrev pub kept : Nested → Forested → Kept
kept s t = record {
  vertices = s.vertices;
  children = children_of s;
  joint = tie_at t.joint;
  top = outermost s;
  base = slice_index t.base;
  mate = slice_index t.mate;
  mark = mark_at t.mark;
  label = slice_index t.label;
  link = tie_at t.link;
}

-- a new nest and a new forest show the start
abbrev pub StartedLaw : Type 0
StartedLaw = (n : ℕ) → Shows (kept (single n) (unmatched n)) (λ s. pos 0) (start n)

-- a forest that has grown shows the grown search
abbrev pub ForestGrownLaw : Type 0
ForestGrownLaw = (s : Nested) (t : Forested) (number : ℕ → ℤ) (search : Search) (u v : ℕ) →
    IsNest s → IsInRange t → t.vertices ≡ s.vertices → u < s.vertices → v < s.vertices →
    Shows (kept s t) number search → mark_at t.mark (outermost s u) ≡ OuterPlace →
    mark_at t.mark (outermost s v) ≡ AwayPlace →
    (next : Search) × IsGrown search next u v × Shows (kept s (grown t s u v)) number next
