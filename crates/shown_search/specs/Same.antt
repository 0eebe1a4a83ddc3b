-- What is kept is read below the number of vertices, and from it on.
use Rattle.std.specs.Prelude.{◌≡◌, ◌<◌, ◌≤◌, ℕ, List, ℤ}
use Rattle.matching_model.specs.Forests.{Search}
use Rattle.shown_search.specs.Shown.{Kept, Shows}

-- other children and outermost sets
abbrev pub with_sets : Kept → (ℕ → List ℕ) → (ℕ → ℕ) → Kept
with_sets k children top = record {
  vertices = k.vertices;
  children = children;
  joint = k.joint;
  top = top;
  base = k.base;
  mate = k.mate;
  mark = k.mark;
  label = k.label;
  link = k.link;
}

-- where the children of sets with children, and the outermost sets of vertices, are the same, the
-- same search is shown
abbrev pub SameLaw : Type 0
SameLaw = (k : Kept) (number : ℕ → ℤ) (s : Search) (children : ℕ → List ℕ) (top : ℕ → ℕ) →
    ((set : ℕ) → k.vertices ≤ set → children set ≡ k.children set) →
    ((v : ℕ) → v < k.vertices → top v ≡ k.top v) → Shows k number s →
    Shows (with_sets k children top) number s
