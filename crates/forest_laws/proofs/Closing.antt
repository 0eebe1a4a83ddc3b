-- A nest of which a ring has become one set.
use Rattle.std.proofs.Common.{◌≡◌, ℕ, ◌≤◌, ◌<◌, ◌-◌, ◌==◌, true, List, [], ◌∷◌, get_or, length, set as set_at_place, sym, ap, ◌∙◌, arith, subst, ⊎_elim}
use Rattle.std.specs.Prelude.{slice_index, ℤ}
use Rattle.std.specs.List.{AllByRecursion}
use Rattle.std.proofs.lemmas.Bool.{cases_eq, false≢true, false_from_ne_true}
use Rattle.std.proofs.lemmas.List.{get_or-set_same, get_or-set_other}
use Rattle.graph_model.specs.Graph.{is_in}
use Rattle.graph_model.proofs.Members.{is_in_cases}
use Rattle.matching_model.specs.Forests.{Mark, Search}
use Rattle.shown_search.specs.Shown.{Kept, Shows}
use Rattle.shown_search.specs.Same.{with_sets}
use Rattle.shown_search.proofs.Growth.{put_else, put_there}
use Rattle.shown_search.proofs.Same.{same_law}
use Rattle.shown_rings.specs.Shrinking.{IsFree, first_of, shrunk}
use Rattle.blossom_nest.specs.Nests.{IsName, IsNest, IsOutermost, IsShrunk, Nested, children_of, no_set, outermost, parent_of}
use Rattle.blossom_forest.specs.Trees.{Forested, IsInRange, names, ringed}
use Rattle.blossom_forest.specs.declared.step.Mark.TheVariants.{Outer}
use Rattle.blossom_forest.specs.declared.step.Tie.{Tie}
use Rattle.forest_laws.specs.Closing.{NestShrunkLaw, with_joints}
use Rattle.forest_laws.specs.Keeping.{kept, mark_at, place_of, tie_at}
use Rattle.forest_laws.proofs.Entries.{of_cond, set_at}
use Rattle.forest_laws.proofs.Parting.{has_name}

each_of : (P : ℕ → Type 0) (xs : List ℕ) (c : ℕ) → AllByRecursion P xs → is_in xs c ≡ true → P c
each_of P [] c all m = absurd (false≢true m)
each_of P (x ∷ xs) c all m =
    ⊎_elim (λ e. subst P e all.0) (λ r. each_of P xs c all.1 r) (is_in_cases x c xs m)

module _ (s s' : Nested) (t : Forested) (joint : List Tie) (ring : List ℕ) (set : ℕ)
    (nest : IsNest s) (range : IsInRange t) (same : t.vertices ≡ s.vertices)
    (e : IsShrunk s ring set s') (outer : AllByRecursion (IsOutermost s) ring) where
  -- an outermost set is no child
  no_child : (p c : ℕ) → IsName s p → is_in (children_of s p) c ≡ true →
      parent_of s c ≡ no_set s → ⊥
  no_child p c is m alone =
      let l = nest.listed p c is m in
      let below = is.below in
      let up = l.1 in
      omega (arith, up, alone, below)

  free_law : IsFree (kept s t) ring set
  free_law = record {
    name = e.name.from;
    unused = λ v low is. (nest.tops v low).stands
        (subst (λ z. s.vertices ≤ z) (sym is) e.name.from)
        (ap (children_of s) is ∙ e.free);
    no_child = λ p c from m is. no_child p c (has_name s p c nest from m) m
        (ap (parent_of s) is ∙ nest.free set e.name e.free);
    outermost = λ p c from m. false_from_ne_true (is_in ring c)
        (λ i. no_child p c (has_name s p c nest from m) m
        (each_of (IsOutermost s) ring c outer i).alone);
  }

  below : set < names t.vertices
  below = let low = e.name.below in omega (arith, low, same)

  abbrev after : Forested
  after = ringed (with_joints t joint) (first_of ring) set

  abbrev k : Kept
  k = shrunk (kept s t) (tie_at joint) ring set

  marks_same : (c : ℕ) → mark_at after.mark c ≡ k.mark c
  marks_same c = ap place_of (set_at t.mark set Outer Outer c (omega (arith, below, range.marks)))
      ∙ of_cond place_of (set == c) Outer (get_or t.mark c Outer)

  bases_same : (c : ℕ) → slice_index after.base c ≡ k.base c
  bases_same c = set_at t.base set (slice_index t.base (first_of ring)) 0 c
      (omega (arith, below, range.bases))

  labels_same : (c : ℕ) → slice_index after.label c ≡ k.label c
  labels_same c = set_at t.label set (slice_index t.label (first_of ring)) 0 c
      (omega (arith, below, range.labels))

  made : (ℕ → ℕ) → (ℕ → Mark) → (ℕ → ℕ) → Kept
  made base mark label = record {
    vertices = s.vertices;
    children = children_of s';
    joint = tie_at joint;
    top = outermost s';
    base = base;
    mate = slice_index t.mate;
    mark = mark;
    label = label;
    link = tie_at t.link;
  }

  made_at : ℕ → Kept
  made_at n = record {
    vertices = n;
    children = children_of s';
    joint = tie_at joint;
    top = outermost s';
    base = slice_index after.base;
    mate = slice_index t.mate;
    mark = mark_at after.mark;
    label = slice_index after.label;
    link = tie_at t.link;
  }

  kept_same : kept s' after ≡ with_sets k (children_of s') (outermost s')
  unfolding made made_at
  kept_same =
      ap made_at e.vertices
      ∙ ap (λ b. made b (mark_at after.mark) (slice_index after.label)) (λ i c. bases_same c i)
      ∙ ap (λ m. made k.base m (slice_index after.label)) (λ i c. marks_same c i)
      ∙ ap (λ l. made k.base k.mark l) (λ i c. labels_same c i)

  children_same : (p : ℕ) → s.vertices ≤ p → children_of s' p ≡ k.children p
  children_same p from = reads ∙ ⊎_elim (λ is. there is) (λ ne. elsewhere ne) (cases_eq set p)
    where
      reads : children_of s' p
          ≡ get_or (set_at_place s.children (set - s.vertices) ring) (p - s.vertices) []
      reads = ap (λ n. get_or s'.children (p - n) []) e.vertices
          ∙ ap (λ xs. get_or xs (p - s.vertices) []) e.children

      place : set - s.vertices < length s.children
      place = let a = e.name.from in let b = e.name.below in let len = nest.children_len in
          omega (arith, a, b, len)

      there : set ≡ p →
          get_or (set_at_place s.children (set - s.vertices) ring) (p - s.vertices) []
          ≡ k.children p
      there is = subst (λ z. get_or (set_at_place s.children (set - s.vertices) ring)
          (z - s.vertices) [] ≡ k.children z) is
          (get_or-set_same s.children (set - s.vertices) ring [] place
          ∙ sym (put_there (children_of s) set ring))

      elsewhere : (set ≡ p → ⊥) →
          get_or (set_at_place s.children (set - s.vertices) ring) (p - s.vertices) []
          ≡ k.children p
      elsewhere ne = get_or-set_other s.children (set - s.vertices) (p - s.vertices) ring []
          (λ z. let a = e.name.from in ne (omega (arith, z, a, from)))
          ∙ sym (put_else (children_of s) set ring p ne)

  shows_law : (number : ℕ → ℤ) (search : Search) → Shows k number search →
      Shows (kept s' after) number search
  shows_law number search h = subst (λ z. Shows z number search) (sym kept_same)
      (same_law k number search (children_of s') (outermost s') children_same
      (λ v low. e.top v low) h)

pub nest_shrunk_law : NestShrunkLaw
nest_shrunk_law s s' t joint ring set nest range same e outer = (
  free_law s s' t joint ring set nest range same e outer,
  shows_law s s' t joint ring set nest range same e outer,
)
