-- How a nest is kept.
use Rattle.std.specs.Prelude.{◌≡◌, ◌≢◌, ℕ, ◌+◌, ◌/◌, ◌<◌, ◌≤◌, true, List, [], ◌∷◌, length, slice_index_or}
use Rattle.std.specs.List.{AllByRecursion}
use Rattle.graph_model.specs.Graph.{is_in}
use Rattle.link_lists.specs.Lists.{Lists, AreDisjoint, IsApart, list_at}
use Rattle.blossom_nest.specs.Nests.{IsNest, Nested}

abbrev pub at : List ℕ → ℕ → ℕ
at xs i = slice_index_or xs i 0

abbrev pub shown : ℕ → List (List ℕ) → List ℕ → List ℕ → Nested
shown n children parent top = record {
  vertices = n;
  children = children;
  parent = parent;
  top = top;
}

-- the free places are those without children, each once, and there is room for all
pub record IsKept (n : ℕ) (lists : Lists) (parent top unused : List ℕ) (room : ℕ) : Type 0 where
  pub nest : IsNest (shown n lists.lists parent top)
  pub nodes : lists.nodes ≡ n + n / 2
  pub disjoint : AreDisjoint lists
  pub empty : (k : ℕ) → is_in unused k ≡ true → (k < n / 2) × (list_at lists k ≡ [])
  pub listed : (k : ℕ) → k < n / 2 → list_at lists k ≡ [] → is_in unused k ≡ true
  pub unused_apart : IsApart unused
  pub roomy : n / 2 ≤ room

-- a way up from the set a by parents, each a name, to the set t
abbrev pub Climbs : List ℕ → ℕ → List ℕ → ℕ → Type 0
Climbs parent a [] t = a ≡ t
Climbs parent a (p ∷ ps) t = (a < length parent) × (at parent a ≡ p) × Climbs parent p ps t

-- a way up of at most as many steps as there are names, and of at least one
pub record Leads (parent : List ℕ) (v set : ℕ) : Type 0 where
  pub way : List ℕ
  pub climbs : Climbs parent v way set
  pub short : length way ≤ length parent
  pub apart : v ≢ set

-- a child of the set, reached from the vertex by other sets than the set itself
pub record IsChildAbove (parent : List ℕ) (v set child : ℕ) : Type 0 where
  pub way : List ℕ
  pub climbs : Climbs parent v way child
  pub short_of : AllByRecursion (λ p. p ≢ set) way
  pub low : child < length parent
  pub is_child : at parent child ≡ set
