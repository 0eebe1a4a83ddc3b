-- What is kept shows the search in which two trees have become matched sets.
use Rattle.std.specs.Prelude.{◌≡◌, ℕ, ◌==◌, ◌||◌, false, cond, List, [], ◌∷◌, ◌++◌, map, ℤ}
use Rattle.graph_model.specs.Graph.{is_in}
use Rattle.matching_model.specs.Blossoms.{Side, has}
use Rattle.matching_model.specs.Forests.{Branches, branch, Search, Away, IsOuter, root, below, beside}
use Rattle.matching_ends.specs.Mated.{AreMates}
use Rattle.shown_search.specs.Shown.{Kept, IsBase, Shows}
use Rattle.shown_search.specs.Taken.{IsAugmented}

-- the vertices by which the sets on the way from the root to an outer set are to be matched, the
-- outer set by its vertex u
abbrev pub way_vertices : (top : Side) (bs : Branches) (x : Side) → IsOuter top bs x → ℕ → List ℕ
way_vertices top bs x root u = u ∷ []
way_vertices top (branch o i inner a b outer sub rest) x (below q) u =
    o ∷ i ∷ way_vertices outer sub x q u
way_vertices top (branch o i inner a b outer sub rest) x (beside q) u = way_vertices top rest x q u

-- they are in these sets
abbrev pub AreOn : (top : Side) (bs : Branches) (x : Side) → IsOuter top bs x → ℕ → Type 0
AreOn top bs x root u = has x u
AreOn top (branch o i inner a b outer sub rest) x (below q) u =
    has top o × has inner i × AreOn outer sub x q u
AreOn top (branch o i inner a b outer sub rest) x (beside q) u = AreOn top rest x q u

-- the outermost sets of these vertices leave just these out
abbrev pub AreExposed : Kept → (ℕ → ℕ) → (ℕ → ℕ) → List ℕ → Type 0
AreExposed k base mate [] = Unit {0}
AreExposed k base mate (v ∷ vs) =
    IsBase k.vertices k.children k.joint base mate (k.top v) v × AreExposed k base mate vs

-- on the way each set is matched to the next
abbrev pub AreMatched : (ℕ → ℕ) → (top : Side) (bs : Branches) (x : Side) → IsOuter top bs x →
    Type 0
AreMatched mate top bs x root = Unit {0}
AreMatched mate top (branch o i inner a b outer sub rest) x (below q) =
    AreMates mate o i × AreMatched mate outer sub x q
AreMatched mate top (branch o i inner a b outer sub rest) x (beside q) =
    AreMatched mate top rest x q

-- the sets of the trees of two unmatched vertices are outside the trees; bases and mates are new
abbrev pub augmented : Kept → (ℕ → ℕ) → (ℕ → ℕ) → ℕ → ℕ → Kept
augmented k base mate one two = record {
  vertices = k.vertices;
  children = k.children;
  joint = k.joint;
  top = k.top;
  base = base;
  mate = mate;
  mark = λ s. cond ((k.label s == one) || (k.label s == two)) Away (k.mark s);
  label = k.label;
  link = k.link;
}

-- the vertices of both ways
abbrev pub both_ways : {s s' : Search} {u w : ℕ} → IsAugmented s s' u w → List ℕ
both_ways {u = u} {w = w} g = way_vertices g.one.root g.one.branches g.first g.place u
    ++ way_vertices g.two.root g.two.branches g.second g.other_place w

-- outside the sets on the ways all stays: bases, and the mates of vertices
pub record StaysElse (k : Kept) (base mate : ℕ → ℕ) (ways : List ℕ) : Type 0 where
  pub bases : (c v : ℕ) → is_in (map k.top ways) c ≡ false →
      IsBase k.vertices k.children k.joint k.base k.mate c v →
      IsBase k.vertices k.children k.joint base mate c v
  pub mates : (v : ℕ) → is_in (map k.top ways) (k.top v) ≡ false → mate v ≡ k.mate v

abbrev pub AugmentedLaw : Type 0
AugmentedLaw = (k : Kept) (number : ℕ → ℤ) (s s' : Search) (u w : ℕ) → Shows k number s →
    (g : IsAugmented s s' u w) → AreOn g.one.root g.one.branches g.first g.place u →
    AreOn g.two.root g.two.branches g.second g.other_place w → (base mate : ℕ → ℕ) →
    AreExposed k base mate (way_vertices g.one.root g.one.branches g.first g.place u) →
    AreExposed k base mate (way_vertices g.two.root g.two.branches g.second g.other_place w) →
    AreMatched mate g.one.root g.one.branches g.first g.place →
    AreMatched mate g.two.root g.two.branches g.second g.other_place → AreMates mate u w →
    StaysElse k base mate (both_ways g) →
    Shows (augmented k base mate (k.label (k.top u)) (k.label (k.top w))) number s'
