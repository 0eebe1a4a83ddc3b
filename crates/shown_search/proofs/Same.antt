-- What is not read may differ.
use Rattle.std.proofs.Common.{◌≡◌, ℕ, ◌≤◌, ◌<◌, true, false, List, [], refl, sym, ◌∙◌}
use Rattle.std.specs.Prelude.{ℤ}
use Rattle.graph_model.specs.Graph.{is_in}
use Rattle.matching_model.specs.Blossoms.{Side}
use Rattle.matching_model.specs.Forests.{Mark}
use Rattle.shown_search.specs.Shown.{Kept, IsAt}
use Rattle.shown_search.specs.Same.{SameLaw, with_sets}
use Rattle.shown_search.proofs.Beside.{pairs_beside, trees_beside}
use Rattle.shown_search.proofs.Frames.{same_base, same_set, set_low}

module _ (k : Kept) (number : ℕ → ℤ) (children : ℕ → List ℕ) (top : ℕ → ℕ)
    (kids : (set : ℕ) → k.vertices ≤ set → children set ≡ k.children set)
    (tops : (v : ℕ) → v < k.vertices → top v ≡ k.top v) where
  abbrev k' : Kept
  k' = with_sets k children top

  abbrev Good : ℕ → Type 0
  Good s = Unit {0}

  inside : (s c : ℕ) → Good s → k.vertices ≤ s → is_in (k.children s) c ≡ true →
      Good c × (k.joint c ≡ k.joint c)
  inside s c good from m = (tt, refl)

  at : (m : Mark) (s : ℕ) (x : Side) (v : ℕ) → is_in [] v ≡ false → IsAt k number m s x v →
      IsAt k' number m s x v
  at m s x v out h = record {
    set = same_set k.vertices k.children children k.joint k.joint Good (λ c good from. kids c from)
        number number inside (λ p c good from i. refl) s x.body h.set tt;
    numbered = h.numbered;
    tops = λ u i. tops u (set_low k.vertices k.children k.joint number s x.body h.set u i)
        ∙ h.tops u i;
    only = λ u low e. h.only u low (sym (tops u low) ∙ e);
    based = same_base k.vertices k.children children k.joint k.joint Good
        (λ c good from. kids c from) k.base k.base k.mate k.mate inside (λ c good. refl)
        (λ u. refl) s v h.based tt;
    holds = h.holds;
    marked = h.marked;
  }

pub same_law : SameLaw
same_law k number s children top kids tops h = record {
  trees = trees_beside k (with_sets k children top) number number []
      (at k number children top kids tops) (λ m c x v out i. refl) (λ m c x v out i. refl)
      (λ u w p. p) (λ u e. e) s.trees h.trees (λ v m. refl);
  mates = pairs_beside k (with_sets k children top) number number []
      (at k number children top kids tops) (λ m c x v out i. refl) (λ m c x v out i. refl)
      (λ u w p. p) (λ u e. e) s.mates h.mates (λ v m. refl);
  covers = h.covers;
}
