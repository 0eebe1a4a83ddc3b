-- The steps on a tree of five vertices, whose root 0 has the branches 0 - 1 = 2 and 0 - 3 = 4, and
-- on a ring of five vertices.
use Rattle.std.proofs.Common.{◌≡◌, ℕ, List, [], ◌∷◌, refl}
use Rattle.std.specs.Prelude.{pos}
use Rattle.matching_model.specs.Blossoms.{vertex, Side}
use Rattle.matching_model.specs.Forests.{Branches, leaf, branch, Mate, IsOuter, root, below, AreTwo, split}
use Rattle.matching_laws.specs.Constructions.{Hold, Parted, to_first, to_second, as_one, branches_with, hang, off_way, opened, ring_between, top_with, turn_about}

abbrev alone : ℕ → Side
alone v = record { body = vertex v; number = pos 0; out = 0; into = 0 }

abbrev joint : ℕ → ℕ → Side
joint v w = record { body = vertex v; number = pos 0; out = v; into = w }

abbrev mates : ℕ → ℕ → Mate
mates v w = record { one = alone v; at_one = v; two = alone w; at_two = w }

-- the branches of the tree
abbrev second : Branches
second = branch 0 3 (alone 3) 3 4 (alone 4) leaf leaf

abbrev both : Branches
both = branch 0 1 (alone 1) 1 2 (alone 2) leaf second

abbrev at_two : IsOuter (alone 0) both (alone 2)
at_two = below root

abbrev two_four : AreTwo (alone 0) both (alone 2) (alone 4)
two_four = split root (below root)

-- the matched vertices 5 and 6 hang on 2
hung : hang (alone 0) both (alone 2) at_two 2 5 (mates 5 6)
    ≡ branch 0 1 (alone 1) 1 2 (alone 2) (branch 2 5 (alone 5) 5 6 (alone 6) leaf leaf) second
hung = refl

-- 2 is left out: 0 is matched to 1, and 3 to 4 as before
about : turn_about (alone 0) both (alone 2) at_two ≡ mates 0 1 ∷ mates 3 4 ∷ []
about = refl

-- the ring 0, 1, 2, 4, 3, and the other way round
first_way : ring_between (alone 0) both (alone 2) (alone 4) two_four to_first 2 4
    ≡ joint 0 1 ∷ joint 1 2 ∷ joint 2 4 ∷ joint 4 3 ∷ joint 3 0 ∷ []
first_way = refl

second_way : ring_between (alone 0) both (alone 2) (alone 4) two_four to_second 2 4
    ≡ joint 0 3 ∷ joint 3 4 ∷ joint 4 2 ∷ joint 2 1 ∷ joint 1 0 ∷ []
second_way = refl

-- nothing is left of the tree but the ring as its root
shrunk_root : top_with (alone 0) both (alone 2) (alone 4) two_four (as_one []) ≡ as_one []
shrunk_root = refl

shrunk_branches : branches_with (alone 0) both (alone 2) (alone 4) two_four (as_one []) ≡ leaf
shrunk_branches = refl

-- what hangs beside the way stays
beside_way : off_way (alone 0) both (alone 2) at_two ≡ second
beside_way = refl

-- a ring that hangs by its vertex 0 on 7, and holds the mate 8 of its vertex `last`
abbrev ring : List Side
ring = joint 0 1 ∷ joint 1 2 ∷ joint 2 3 ∷ joint 3 4 ∷ joint 4 0 ∷ []

abbrev hold : ℕ → Hold
hold last = record { above = 7; at = 0; out = last; mate = 8; outer = alone 8; branches = leaf }

abbrev at_third : Parted ring (hold 2)
at_third = record {
  before = [];
  upper = joint 0 1;
  behind = joint 1 2 ∷ joint 2 3 ∷ joint 3 4 ∷ joint 4 0 ∷ [];
  whole = refl;
  hangs = refl;
  way = joint 0 1 ∷ joint 1 2 ∷ [];
  lower = joint 2 3;
  beyond = joint 3 4 ∷ joint 4 0 ∷ [];
  round = refl;
  holds = refl;
}

abbrev at_fourth : Parted ring (hold 3)
at_fourth = record {
  before = [];
  upper = joint 0 1;
  behind = joint 1 2 ∷ joint 2 3 ∷ joint 3 4 ∷ joint 4 0 ∷ [];
  whole = refl;
  hangs = refl;
  way = joint 0 1 ∷ joint 1 2 ∷ joint 2 3 ∷ [];
  lower = joint 3 4;
  beyond = joint 4 0 ∷ [];
  round = refl;
  holds = refl;
}

-- to 2 the way leads on: 7 - 0 = 1 - 2 = 8, and 3 is matched to 4
forth : (opened ring (hold 2) at_third).branches ≡ branch 7 0 (joint 0 1) 0 1 (joint 1 2)
    (branch 1 2 (joint 2 3) 2 8 (alone 8) leaf leaf) leaf
forth = refl

forth_left : (opened ring (hold 2) at_third).mates
    ≡ record { one = joint 3 4; at_one = 3; two = joint 4 0; at_two = 4 } ∷ []
forth_left = refl

-- to 3 it leads back: 7 - 0 = 4 - 3 = 8, and 1 is matched to 2
back : (opened ring (hold 3) at_fourth).branches ≡ branch 7 0 (joint 0 1) 0 4 (joint 4 0)
    (branch 4 3 (joint 3 4) 3 8 (alone 8) leaf leaf) leaf
back = refl

back_left : (opened ring (hold 3) at_fourth).mates
    ≡ record { one = joint 1 2; at_one = 1; two = joint 2 3; at_two = 2 } ∷ []
back_left = refl
