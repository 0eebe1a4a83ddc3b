-- A forest that grows shows the grown search.
use Rattle.std.specs.Prelude.{◌≡◌, ◌<◌, ℕ, ◌==◌, cond, List, ◌∷◌, ◌++◌, ℤ, ◌⊎◌}
use Rattle.matching_model.specs.Blossoms.{Side, has}
use Rattle.matching_model.specs.Forests.{Mate, Tree, Search, IsOuter, Outer, Inner, Away}
use Rattle.matching_laws.specs.Constructions.{hang}
use Rattle.matching_laws.specs.StepLaws.{forest, with_branches}
use Rattle.shown_search.specs.Shown.{Kept, Shows}

-- one entry is written
abbrev pub put : {X : Type 0} → (ℕ → X) → ℕ → X → ℕ → X
put f s x t = cond (s == t) x (f t)

-- the set that is matched to the outermost set of a vertex
abbrev pub mate_set : Kept → ℕ → ℕ
mate_set k v = k.top (k.mate (k.base (k.top v)))

-- the set of v hangs on the set of u, by these two, and its mate hangs on it
abbrev pub grown : Kept → ℕ → ℕ → Kept
grown k u v = record {
  vertices = k.vertices;
  children = k.children;
  joint = k.joint;
  top = k.top;
  base = k.base;
  mate = k.mate;
  mark = put (put k.mark (k.top v) Inner) (mate_set k v) Outer;
  label = put (put k.label (k.top v) (k.label (k.top u))) (mate_set k v) (k.label (k.top u));
  link = put k.link (k.top v) (v, u);
}

-- the pair with its sets the other way round
abbrev pub turned : Mate → Mate
turned p = record { one = p.two; at_one = p.at_two; two = p.one; at_two = p.at_one }

-- one tree first, and then the others
pub record TreeFirst (ts : List Tree) (tree : Tree) (trees : List Tree) : Type 0 where
  pub before : List Tree
  pub behind : List Tree
  pub whole : ts ≡ before ++ tree ∷ behind
  pub rest : trees ≡ before ++ behind

-- one matched pair first, turned or not, and then the others
pub record MateFirst (ps : List Mate) (p : Mate) (mates : List Mate) : Type 0 where
  pub before : List Mate
  pub same : Mate
  pub behind : List Mate
  pub whole : ps ≡ before ++ same ∷ behind
  pub rest : mates ≡ before ++ behind
  pub either : (p ≡ same) ⊎ (p ≡ turned same)

-- a tree of s has grown by the pair of u in an outer set and v in a matched one
pub record IsGrown (s s' : Search) (u v : ℕ) : Type 0 where
  pub tree : Tree
  pub trees : List Tree
  pub tree_first : TreeFirst s.trees tree trees
  pub pair : Mate
  pub mates : List Mate
  pub mate_first : MateFirst s.mates pair mates
  pub outer : Side
  pub place : IsOuter tree.root tree.branches outer
  pub in_outer : has outer u
  pub in_pair : has pair.one v
  pub after : s' ≡ forest (with_branches tree (hang tree.root tree.branches outer place u v pair)
      ∷ trees) mates

-- where u is in an outer set and v in one outside the trees
abbrev pub GrownLaw : Type 0
GrownLaw = (k : Kept) (number : ℕ → ℤ) (s : Search) (u v : ℕ) → Shows k number s →
    u < k.vertices → v < k.vertices → k.mark (k.top u) ≡ Outer → k.mark (k.top v) ≡ Away →
    (s' : Search) × IsGrown s s' u v × Shows (grown k u v) number s'
