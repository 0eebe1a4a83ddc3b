-- What a nest and a forest keep.
use Rattle.std.proofs.Common.{◌≡◌, ℕ, ◌<◌, ◌-◌, ◌==◌, cond, List, length, get_or, set, refl, sym, ap, ◌∙◌, arith, subst, replicate, All, length-set}
use Rattle.std.specs.Prelude.{pos, slice_index}
use Rattle.std.specs.List.{range_with_len}
use Rattle.std.proofs.Math.ListN.{get_or-append}
use Rattle.std.proofs.lemmas.List.{get_or-replicate}
use Rattle.std.proofs.lemmas.List.FromFn.{get_or-range_with_len, length-range_with_len}
use Rattle.matching_model.specs.Forests.{Mark}
use Rattle.matching_model.specs.Forests.Mark.{Outer as OuterPlace, Inner as InnerPlace}
use Rattle.shown_search.specs.Shown.{Kept, Shows}
use Rattle.shown_search.specs.Growing.{put, grown as kept_grown}
use Rattle.shown_search.proofs.Fresh.{fresh_law}
use Rattle.shown_search.proofs.Growth.{grown_law}
use Rattle.blossom_nest.specs.Nests.{Nested, children_of, outermost, single}
use Rattle.blossom_forest.specs.Trees.{Forested, IsInRange, grown, itself, label_of, mate_set, names, nowhere, unmatched}
use Rattle.blossom_forest.specs.declared.step.Mark.TheVariants.{Outer, Inner}
use Rattle.forest_laws.specs.Keeping.{kept, place_of, mark_at, ends_of, tie_at, StartedLaw, ForestGrownLaw}
use Rattle.forest_laws.proofs.Entries.{set_at, of_cond}

-- ---- a new forest
itself_at : (n places v : ℕ) → v < n → get_or (itself n places) v 0 ≡ v
itself_at n places v low =
    get_or-append (range_with_len 0 n) (replicate (places - n) 0) 0 v
    (omega (arith, low, length-range_with_len 0 n))
    ∙ get_or-range_with_len 0 n v 0 low
    ∙ omega arith

pub started_law : StartedLaw
started_law n = fresh_law (kept (single n) (unmatched n)) (λ s. pos 0) (record {
  tops = λ v low. get_or-range_with_len 0 n v 0 low ∙ omega arith;
  bases = λ v low. itself_at n (names n) v low;
  mates = λ v low. itself_at n n v low;
  marks = λ v low. ap place_of (get_or-replicate (names n) v Outer Outer (omega (arith, low)));
  labels = λ v low. itself_at n (names n) v low;
  numbers = λ v low. refl;
})

-- ---- a forest that has grown
module _ (s : Nested) (t : Forested) (u v : ℕ) (inner : outermost s v < names t.vertices)
    (outer : mate_set t s v < names t.vertices) (range : IsInRange t) where
  abbrev a : ℕ
  a = outermost s v

  abbrev b : ℕ
  b = mate_set t s v

  marks_same : (c : ℕ) → mark_at (grown t s u v).mark c
      ≡ put (put (mark_at t.mark) a InnerPlace) b OuterPlace c
  marks_same c =
      ap place_of (set_at (set t.mark a Inner) b Outer Outer c
      (omega (arith, outer, range.marks, length-set t.mark a Inner)))
      ∙ of_cond place_of (b == c) Outer (get_or (set t.mark a Inner) c Outer)
      ∙ ap (λ m. cond (b == c) OuterPlace m) (ap place_of
      (set_at t.mark a Inner Outer c (omega (arith, inner, range.marks)))
      ∙ of_cond place_of (a == c) Inner (get_or t.mark c Outer))

  labels_same : (c : ℕ) → slice_index (grown t s u v).label c
      ≡ put (put (slice_index t.label) a (label_of t s u)) b (label_of t s u) c
  labels_same c =
      set_at (set t.label a (label_of t s u)) b (label_of t s u) 0 c
      (omega (arith, outer, range.labels, length-set t.label a (label_of t s u)))
      ∙ ap (λ l. cond (b == c) (label_of t s u) l) (set_at t.label a (label_of t s u) 0 c
      (omega (arith, inner, range.labels)))

  links_same : (c : ℕ) → tie_at (grown t s u v).link c ≡ put (tie_at t.link) a (v, u) c
  links_same c =
      ap ends_of (set_at t.link a (record { here = v; there = u }) nowhere c
      (omega (arith, inner, range.links)))
      ∙ of_cond ends_of (a == c) (record { here = v; there = u }) (get_or t.link c nowhere)

  made : (ℕ → Mark) → (ℕ → ℕ) → (ℕ → ℕ × ℕ) → Kept
  made mark label link = record {
    vertices = s.vertices;
    children = children_of s;
    joint = tie_at t.joint;
    top = outermost s;
    base = slice_index t.base;
    mate = slice_index t.mate;
    mark = mark;
    label = label;
    link = link;
  }

  kept_same : kept s (grown t s u v) ≡ kept_grown (kept s t) u v
  unfolding made
  kept_same =
      ap (λ m. made m (slice_index (grown t s u v).label) (tie_at (grown t s u v).link))
      (λ i c. marks_same c i)
      ∙ ap (λ l. made (put (put (mark_at t.mark) a InnerPlace) b OuterPlace) l
      (tie_at (grown t s u v).link)) (λ i c. labels_same c i)
      ∙ ap (λ k. made (put (put (mark_at t.mark) a InnerPlace) b OuterPlace)
      (put (put (slice_index t.label) a (label_of t s u)) b (label_of t s u)) k)
      (λ i c. links_same c i)

-- an element of a list of vertices is one
element_low : (n : ℕ) (xs : List ℕ) (i : ℕ) → All (λ v. v < n) xs → i < length xs →
    slice_index xs i < n
element_low n xs i each low = each i 0 low

pub forest_grown_law : ForestGrownLaw
forest_grown_law s t number search u v nest range same low_u low_v shows outer away =
    let inner : outermost s v < names t.vertices = omega (arith, (nest.tops v low_v).below, same) in
    let base : slice_index t.base (outermost s v) < t.vertices =
    element_low t.vertices t.base (outermost s v) range.base_below
    (omega (arith, inner, range.bases)) in
    let mate : slice_index t.mate (slice_index t.base (outermost s v)) < t.vertices =
    element_low t.vertices t.mate (slice_index t.base (outermost s v)) range.mate_below
    (omega (arith, base, range.mates)) in
    let below : mate_set t s v < names t.vertices =
    omega (
      arith,
      (nest.tops (slice_index t.mate (slice_index t.base (outermost s v)))
          (omega (arith, mate, same))).below,
      same,
    ) in
    let k = grown_law (kept s t) number search u v shows low_u low_v outer away in
    (k.0, k.1, subst (λ z. Shows z number k.0) (sym (kept_same s t u v inner below range)) k.2)
