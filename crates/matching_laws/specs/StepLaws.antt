-- What each step of the search makes is sound again, with at least one turn fewer left.
use Rattle.std.specs.Prelude.{◌≡◌, ℕ, List, ◌∷◌, ◌++◌, pos, ◌+ℤ◌, ◌≤ℤ◌}
use Rattle.matching_model.specs.Blossoms.{Side, IsTight}
use Rattle.matching_model.specs.Forests.{Branches, Mate, Tree, Search, IsSound, IsOuter, AreTwo, IsInner, turns_left}
use Rattle.matching_laws.specs.Constructions.{Parted, Sense, as_inner, close_ring, hang, hold_of, in_place, matched, opened, turn_about}

-- a search after a step: it is sound, and at least one turn fewer is left
pub record IsNext (dist : ℕ → ℕ → ℕ) (n : ℕ) (s s' : Search) : Type 0 where
  pub sound : IsSound dist n s'
  pub fewer : (turns_left n s' +ℤ pos 4) ≤ℤ turns_left n s

abbrev pub forest : List Tree → List Mate → Search
forest trees mates = record { trees = trees; mates = mates }

-- the tree with other branches
abbrev pub with_branches : Tree → Branches → Tree
with_branches tree branches = record { root = tree.root; branches = branches }

-- a tree grows by a matched pair, where a pair without slack leads to it
abbrev pub GrowLaw : Type 0
GrowLaw = (dist : ℕ → ℕ → ℕ) (n : ℕ) (tree : Tree) (trees : List Tree) (p : Mate)
    (mates : List Mate) (x : Side) (u v : ℕ) (q : IsOuter tree.root tree.branches x) →
    IsTight dist x u p.one v → IsSound dist n (forest (tree ∷ trees) (p ∷ mates)) →
    IsNext dist n (forest (tree ∷ trees) (p ∷ mates))
    (forest (with_branches tree (hang tree.root tree.branches x q u v p) ∷ trees) mates)

-- two trees become matched pairs, where a pair without slack joins two of their outer sets
abbrev pub AugmentLaw : Type 0
AugmentLaw = (dist : ℕ → ℕ → ℕ) (n : ℕ) (one two : Tree) (trees : List Tree) (mates : List Mate)
    (x y : Side) (u w : ℕ) (p : IsOuter one.root one.branches x)
    (q : IsOuter two.root two.branches y) →
    IsTight dist x u y w → IsSound dist n (forest (one ∷ two ∷ trees) mates) →
    IsNext dist n (forest (one ∷ two ∷ trees) mates)
    (forest trees (matched x u y w
    ∷ (turn_about one.root one.branches x p ++ (turn_about two.root two.branches y q ++ mates))))

-- a ring becomes one set, where a pair without slack joins two outer sets of a tree
abbrev pub ShrinkLaw : Type 0
ShrinkLaw = (dist : ℕ → ℕ → ℕ) → ((u v : ℕ) → dist u v ≡ dist v u) → (n : ℕ) (tree : Tree)
    (trees : List Tree) (mates : List Mate) (x y : Side) (u w : ℕ)
    (two : AreTwo tree.root tree.branches x y) (sense : Sense) → IsTight dist x u y w →
    IsSound dist n (forest (tree ∷ trees) mates) →
    IsNext dist n (forest (tree ∷ trees) mates)
    (forest (close_ring tree x y two sense u w ∷ trees) mates)

-- an inner ring with the number 0 comes apart
abbrev pub ExpandLaw : Type 0
ExpandLaw = (dist : ℕ → ℕ → ℕ) → ((u v : ℕ) → dist u v ≡ dist v u) → (n : ℕ) (tree : Tree)
    (trees : List Tree) (mates : List Mate) (ss : List Side) (a b : ℕ)
    (q : IsInner tree.branches (as_inner ss a b))
    (k : Parted ss (hold_of tree.branches (as_inner ss a b) q)) →
    IsSound dist n (forest (tree ∷ trees) mates) →
    (let new = opened ss (hold_of tree.branches (as_inner ss a b) q) k in
    IsNext dist n (forest (tree ∷ trees) mates)
    (forest (with_branches tree (in_place tree.branches (as_inner ss a b) q new.branches) ∷ trees)
    (new.mates ++ mates)))
