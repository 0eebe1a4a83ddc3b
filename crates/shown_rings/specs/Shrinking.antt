-- What is kept shows the search in which a ring has become one set.
use Rattle.std.specs.Prelude.{◌≡◌, ◌<◌, ◌≤◌, ℕ, true, false, cond, List, [], ◌∷◌, map, ℤ, pos}
use Rattle.graph_model.specs.Graph.{is_in}
use Rattle.matching_model.specs.Blossoms.{Side, has}
use Rattle.matching_model.specs.Forests.{Search, Outer}
use Rattle.matching_laws.specs.Constructions.{ring_between}
use Rattle.shown_search.specs.Shown.{Kept, Shows}
use Rattle.shown_search.specs.Growing.{put}
use Rattle.shown_search.specs.Taken.{IsShrunk, from_first}

-- the names of a ring's children, each of which has the vertex that joins it to the next
abbrev pub names_of : Kept → List Side → List ℕ
names_of k ss = map (λ (s : Side). k.top s.out) ss

abbrev pub Own : List Side → Type 0
Own [] = Unit {0}
Own (s ∷ ss) = has s s.out × Own ss

-- each child is joined to the next
abbrev pub AreJoined : Kept → (ℕ → ℕ × ℕ) → List Side → Type 0
AreJoined k joint [] = Unit {0}
AreJoined k joint (s ∷ ss) = (joint (k.top s.out) ≡ (s.out, s.into)) × AreJoined k joint ss

-- the first of a list, or 0
abbrev pub first_of : List ℕ → ℕ
first_of [] = 0
first_of (x ∷ xs) = x

-- the sets with these names have become the children of a set whose name was free; it is outer, and
-- its base and tree are those of the first of them
abbrev pub shrunk : Kept → (ℕ → ℕ × ℕ) → List ℕ → ℕ → Kept
shrunk k joint names set = record {
  vertices = k.vertices;
  children = put k.children set names;
  joint = joint;
  top = λ v. cond (is_in names (k.top v)) set (k.top v);
  base = put k.base set (k.base (first_of names));
  mate = k.mate;
  mark = put k.mark set Outer;
  label = put k.label set (k.label (first_of names));
  link = k.link;
}

-- the name isn't that of an outermost set or of a child, and no child has one of these names
pub record IsFree (k : Kept) (names : List ℕ) (set : ℕ) : Type 0 where
  pub name : k.vertices ≤ set
  pub unused : (v : ℕ) → v < k.vertices → k.top v ≡ set → ⊥
  pub no_child : (s c : ℕ) → k.vertices ≤ s → is_in (k.children s) c ≡ true → c ≡ set → ⊥
  pub outermost : (s c : ℕ) → k.vertices ≤ s → is_in (k.children s) c ≡ true → is_in names c ≡ false

-- the ring of a step, from the lowest set above both ends
abbrev pub ring_of_step : {s s' : Search} {u w : ℕ} → IsShrunk s s' u w → List Side
ring_of_step {u = u} {w = w} g =
    ring_between g.tree.root g.tree.branches g.first g.second g.places g.sense
    (from_first g.sense u w).0 (from_first g.sense u w).1

abbrev pub ShrunkLaw : Type 0
ShrunkLaw = (k : Kept) (number : ℕ → ℤ) (s s' : Search) (u w : ℕ) → Shows k number s →
    (g : IsShrunk s s' u w) → Own (ring_of_step g) → (set : ℕ) →
    IsFree k (names_of k (ring_of_step g)) set → (joint : ℕ → ℕ × ℕ) →
    ((c : ℕ) → is_in (names_of k (ring_of_step g)) c ≡ false → joint c ≡ k.joint c) →
    AreJoined k joint (ring_of_step g) →
    Shows (shrunk k joint (names_of k (ring_of_step g)) set) (put number set (pos 0)) s'
