-- What is kept of single vertices shows the start of a search.
use Rattle.std.specs.Prelude.{◌≡◌, ◌<◌, ℕ, ℤ, pos}
use Rattle.matching_model.specs.Forests.{Outer, start}
use Rattle.shown_search.specs.Shown.{Kept, Shows}

-- each vertex is a set, a tree and unmatched, with the number 0
pub record IsFresh (k : Kept) (number : ℕ → ℤ) : Type 0 where
  pub tops : (v : ℕ) → v < k.vertices → k.top v ≡ v
  pub bases : (v : ℕ) → v < k.vertices → k.base v ≡ v
  pub mates : (v : ℕ) → v < k.vertices → k.mate v ≡ v
  pub marks : (v : ℕ) → v < k.vertices → k.mark v ≡ Outer
  pub labels : (v : ℕ) → v < k.vertices → k.label v ≡ v
  pub numbers : (v : ℕ) → v < k.vertices → number v ≡ pos 0

abbrev pub FreshLaw : Type 0
FreshLaw = (k : Kept) (number : ℕ → ℤ) → IsFresh k number → Shows k number (start k.vertices)
