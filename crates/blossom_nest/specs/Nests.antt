-- Sets of vertices that lie in one another, after Edmonds. With n vertices, vertex v is the set v.
-- A set with children has a name from n to below n + n / 2; its children are listed in ring order.
-- A set without a parent is outermost.
use Rattle.std.specs.Prelude.{◌≡◌, ◌≢◌, ℕ, ◌+◌, ◌-◌, ◌/◌, ◌%◌, ◌<◌, ◌≤◌, ◌==◌, true, cond, List, [], ◌∷◌, Option, None, Some, length, replicate, slice_index_or, slice_set}
use Rattle.std.specs.List.{range_with_len}
use Rattle.graph_model.specs.Graph.{is_in}
use Rattle.link_lists.specs.Lists.{IsApart, after, first}

-- how many vertices there may be
abbrev pub most_vertices : ℕ
most_vertices = 8192

-- what contracts see: the children of the set n + k at place k, each set's parent by name, and each
-- vertex's outermost set
pub record Nested : Type 0 where
  pub vertices : ℕ
  pub children : List (List ℕ)
  pub parent : List ℕ
  pub top : List ℕ

-- how many names of sets with children there are, and of all sets
abbrev pub places : Nested → ℕ
places s = s.vertices / 2

-- names are below this number, which stands for no set
abbrev pub no_set : Nested → ℕ
no_set s = s.vertices + s.vertices / 2

abbrev pub children_of : Nested → ℕ → List ℕ
children_of s set = slice_index_or s.children (set - s.vertices) []

abbrev pub parent_of : Nested → ℕ → ℕ
parent_of s set = slice_index_or s.parent set 0

abbrev pub outermost : Nested → ℕ → ℕ
outermost s v = slice_index_or s.top v 0

-- the parent, if there is one
abbrev pub parent_in : Nested → ℕ → Option ℕ
parent_in s set = cond (parent_of s set == no_set s) None (Some (parent_of s set))

-- the next in a ring: the first comes after the last
abbrev pub next_in : ℕ → List ℕ → Option ℕ
next_in x xs = elim (after x xs) as (λ _. Option ℕ) [ None ↦ first xs | Some y ↦ Some y ]

-- from a set by its parents ps to the set t
abbrev pub Rises : (ℕ → ℕ) → ℕ → ℕ → List ℕ → ℕ → Type 0
Rises up none a [] t = a ≡ t
Rises up none a (p ∷ ps) t = (up a ≡ p) × (p ≢ none) × Rises up none p ps t

-- the vertex lies in the set
abbrev pub LiesIn : Nested → ℕ → ℕ → Type 0
LiesIn s v set = (ps : List ℕ) × Rises (parent_of s) (no_set s) v ps set

-- the name is one of a set with children
pub record IsName (s : Nested) (set : ℕ) : Type 0 where
  pub from : s.vertices ≤ set
  pub below : set < no_set s

-- a set without a parent: a vertex, or a set with children
pub record IsOutermost (s : Nested) (set : ℕ) : Type 0 where
  pub below : set < no_set s
  pub alone : parent_of s set ≡ no_set s
  pub stands : s.vertices ≤ set → children_of s set ≢ []

-- a ring: an odd number of sets, at least 3
pub record IsRing (ring : List ℕ) : Type 0 where
  pub odd : length ring % 2 ≡ 1
  pub three : 3 ≤ length ring

-- what always holds
pub record IsNest (s : Nested) : Type 0 where
  pub few : s.vertices ≤ most_vertices
  pub children_len : length s.children ≡ places s
  pub parent_len : length s.parent ≡ no_set s
  pub top_len : length s.top ≡ s.vertices
  pub parents : (c : ℕ) → c < no_set s → (s.vertices ≤ parent_of s c) × (parent_of s c ≤ no_set s)
  -- the children of a set are those whose parent it is, each once
  pub listed : (set c : ℕ) → IsName s set → is_in (children_of s set) c ≡ true → (c < no_set s)
      × (parent_of s c ≡ set)
  pub found : (set c : ℕ) → IsName s set → c < no_set s → parent_of s c ≡ set →
      is_in (children_of s set) c ≡ true
  pub apart : (set : ℕ) → IsName s set → IsApart (children_of s set)
  pub rings : (set : ℕ) → IsName s set → children_of s set ≢ [] → IsRing (children_of s set)
  -- a name that isn't taken has no parent
  pub free : (set : ℕ) → IsName s set → children_of s set ≡ [] → parent_of s set ≡ no_set s
  pub tops : (v : ℕ) → v < s.vertices → IsOutermost s (outermost s v)
  pub inside : (v : ℕ) → v < s.vertices → LiesIn s v (outermost s v)

-- n vertices, each a set by itself
abbrev pub single : ℕ → Nested
single n = record {
  vertices = n;
  children = replicate (n / 2) [];
  parent = replicate (n + n / 2) (n + n / 2);
  top = range_with_len 0 n;
}

-- the sets of the ring have become the children of a set whose name was free
pub record IsShrunk (old : Nested) (ring : List ℕ) (set : ℕ) (new : Nested) : Type 0 where
  pub vertices : new.vertices ≡ old.vertices
  pub name : IsName old set
  pub free : children_of old set ≡ []
  pub children : new.children ≡ slice_set old.children (set - old.vertices) ring
  pub parent : (c : ℕ) → c < no_set old →
      parent_of new c ≡ cond (is_in ring c) set (parent_of old c)
  pub top : (v : ℕ) → v < old.vertices →
      outermost new v ≡ cond (is_in ring (outermost old v)) set (outermost old v)

-- the children of the set have become outermost, and its name is free
pub record IsExpanded (old : Nested) (set : ℕ) (new : Nested) : Type 0 where
  pub vertices : new.vertices ≡ old.vertices
  pub children : new.children ≡ slice_set old.children (set - old.vertices) []
  pub parent : (c : ℕ) → c < no_set old →
      parent_of new c ≡ cond (is_in (children_of old set) c) (no_set old) (parent_of old c)
  pub others : (v : ℕ) → v < old.vertices → outermost old v ≢ set →
      outermost new v ≡ outermost old v
  pub top : (v : ℕ) → v < old.vertices → outermost old v ≡ set →
      is_in (children_of old set) (outermost new v) ≡ true
