-- What is kept of a search by names, and when it shows a search. With n vertices, vertex v is the
-- set v, and a set with children has a name from n on.
use Rattle.std.specs.Prelude.{◌≡◌, ◌<◌, ◌≤◌, ℕ, List, [], ◌∷◌, ◌++◌, ℤ}
use Rattle.std.specs.List.{range_with_len}
use Rattle.matching_model.specs.Sums.{int_sum_by}
use Rattle.matching_model.specs.Blossoms.{Blossom, vertex, Side, has, ring_of}
use Rattle.matching_model.specs.Forests.{Branches, leaf, branch, Mate, Tree, Search, Mark, Outer, Inner, Away, search_sum, summed}
use Rattle.matching_ends.specs.Mated.{AreMates}

pub record Kept : Type 0 where
  pub vertices : ℕ
  -- a set's children, in ring order
  pub children : ℕ → List ℕ
  -- from a child to the next child of its ring: a vertex of each
  pub joint : ℕ → ℕ × ℕ
  -- each vertex's outermost set
  pub top : ℕ → ℕ
  -- a set's vertex that isn't mated inside it
  pub base : ℕ → ℕ
  -- each vertex's mate; an unmatched vertex is its own
  pub mate : ℕ → ℕ
  -- where an outermost set stands
  pub mark : ℕ → Mark
  -- the unmatched vertex of the tree of an outermost set
  pub label : ℕ → ℕ
  -- from an inner set to the outer set above it: a vertex of each
  pub link : ℕ → ℕ × ℕ

-- ---- sets
mutual
  -- the set that is named s is the blossom b, with the numbers of all sets inside it
  pub data IsSet (n : ℕ) (children : ℕ → List ℕ) (joint : ℕ → ℕ × ℕ) (number : ℕ → ℤ) :
      ℕ → Blossom → Type 0 where
    single : {v : ℕ} → v < n → IsSet n children joint number v (vertex v)
    ring : {s : ℕ} {b : Blossom} (ss : List Side) → n ≤ s → b ≡ ring_of ss →
        AreChildren n children joint number (children s) ss → IsSet n children joint number s b

  -- the named children are these, each joined to the next
  pub data AreChildren (n : ℕ) (children : ℕ → List ℕ) (joint : ℕ → ℕ × ℕ) (number : ℕ → ℤ) :
      List ℕ → List Side → Type 0 where
    no_child : AreChildren n children joint number [] []
    child : {c : ℕ} {cs : List ℕ} {s : Side} {ss : List Side} →
        IsSet n children joint number c s.body → s.number ≡ number c → joint c ≡ (s.out, s.into) →
        AreChildren n children joint number cs ss →
        AreChildren n children joint number (c ∷ cs) (s ∷ ss)

mutual
  -- v is the one vertex of the set that isn't mated inside it, and so for each set inside it: the
  -- child with v leaves v out, and the other children are mated two by two, from the one after
  -- that child on
  pub data IsBase (n : ℕ) (children : ℕ → List ℕ) (joint : ℕ → ℕ × ℕ) (base mate : ℕ → ℕ) :
      ℕ → ℕ → Type 0 where
    itself : {v : ℕ} → v < n → base v ≡ v → IsBase n children joint base mate v v
    of_ring : {s v : ℕ} (before : List ℕ) (c : ℕ) (behind : List ℕ) → n ≤ s →
        children s ≡ before ++ c ∷ behind → base s ≡ v → IsBase n children joint base mate c v →
        AreTwos n children joint base mate (behind ++ before) →
        IsBase n children joint base mate s v

  -- each two children by the pair that joins them
  pub data AreTwos (n : ℕ) (children : ℕ → List ℕ) (joint : ℕ → ℕ × ℕ) (base mate : ℕ → ℕ) :
      List ℕ → Type 0 where
    no_two : AreTwos n children joint base mate []
    two : {c d : ℕ} {cs : List ℕ} (u w : ℕ) → joint c ≡ (u, w) → AreMates mate u w →
        IsBase n children joint base mate c u → IsBase n children joint base mate d w →
        AreTwos n children joint base mate cs → AreTwos n children joint base mate (c ∷ d ∷ cs)

-- the outermost set that is named s is this one, and stands at this mark; its vertex v isn't mated
-- inside it
pub record IsAt (k : Kept) (number : ℕ → ℤ) (m : Mark) (s : ℕ) (x : Side) (v : ℕ) : Type 0 where
  pub set : IsSet k.vertices k.children k.joint number s x.body
  pub numbered : x.number ≡ number s
  pub tops : (u : ℕ) → has x u → k.top u ≡ s
  pub only : (u : ℕ) → u < k.vertices → k.top u ≡ s → has x u
  pub based : IsBase k.vertices k.children k.joint k.base k.mate s v
  pub holds : has x v
  pub marked : k.mark s ≡ m

-- ---- trees
-- a set of the tree whose unmatched vertex is r
pub record IsInTree (k : Kept) (number : ℕ → ℤ) (r : ℕ) (m : Mark) (x : Side) (v : ℕ) :
    Type 0 where
  pub name : ℕ
  pub at : IsAt k number m name x v
  pub labelled : k.label name ≡ r

-- an inner set, linked by its vertex i to the vertex o of the outer set above
pub record IsLinked (k : Kept) (number : ℕ → ℤ) (r o i : ℕ) (x : Side) (v : ℕ) : Type 0 where
  pub in_tree : IsInTree k number r Inner x v
  pub linked : k.link in_tree.name ≡ (i, o)

abbrev pub AreBranches : Kept → (ℕ → ℤ) → ℕ → Branches → Type 0
AreBranches k number r leaf = Unit {0}
AreBranches k number r (branch o i inner u w outer sub rest) =
    IsLinked k number r o i inner u × IsInTree k number r Outer outer w × AreMates k.mate u w
    × AreBranches k number r sub × AreBranches k number r rest

pub record IsTree (k : Kept) (number : ℕ → ℤ) (t : Tree) : Type 0 where
  pub free : ℕ
  pub unmatched : k.mate free ≡ free
  pub root : IsInTree k number free Outer t.root free
  pub branches : AreBranches k number free t.branches

abbrev pub AreTrees : Kept → (ℕ → ℤ) → List Tree → Type 0
AreTrees k number [] = Unit {0}
AreTrees k number (t ∷ ts) = IsTree k number t × AreTrees k number ts

-- ---- matched sets outside the trees
pub record IsAway (k : Kept) (number : ℕ → ℤ) (x : Side) (v : ℕ) : Type 0 where
  pub name : ℕ
  pub at : IsAt k number Away name x v

abbrev pub ArePaired : Kept → (ℕ → ℤ) → List Mate → Type 0
ArePaired k number [] = Unit {0}
ArePaired k number (p ∷ ps) = (IsAway k number p.one p.at_one × IsAway k number p.two p.at_two
    × AreMates k.mate p.at_one p.at_two) × ArePaired k number ps

-- what is kept shows the search, with these numbers of the sets by name
pub record Shows (k : Kept) (number : ℕ → ℤ) (s : Search) : Type 0 where
  pub trees : AreTrees k number s.trees
  pub mates : ArePaired k number s.mates
  pub covers : (f : ℕ → ℤ) → search_sum (summed f) s ≡ int_sum_by f (range_with_len 0 k.vertices)
