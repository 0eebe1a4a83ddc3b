-- What each step makes of the trees and of the matched pairs, by the place at which it is taken.
-- A pair of vertices is named from the set that it leaves to the set that it enters.
use Rattle.std.specs.Prelude.{◌≡◌, ℕ, ◌%◌, ◌==◌, cond, List, [], ◌∷◌, ◌++◌, length, pos}
use Rattle.matching_model.specs.Blossoms.{Side, has, ring_of}
use Rattle.matching_model.specs.Forests.{Branches, leaf, branch, Mate, Tree, IsOuter, root, below, beside, AreTwo, split, both_below, both_beside, IsInner, here, under, after}

-- ---- grow
-- the matched sets of p hang on the outer set x, by the pair of u in x and v in the first of them
abbrev pub hang : (top : Side) (bs : Branches) (x : Side) → IsOuter top bs x → ℕ → ℕ → Mate →
    Branches
hang top bs x root u v p = branch u v p.one p.at_one p.at_two p.two leaf bs
hang top (branch o i inner a b outer sub rest) x (below q) u v p =
    branch o i inner a b outer (hang outer sub x q u v p) rest
hang top (branch o i inner a b outer sub rest) x (beside q) u v p =
    branch o i inner a b outer sub (hang top rest x q u v p)

-- ---- augment
-- two sets, matched by a vertex of each
abbrev pub matched : Side → ℕ → Side → ℕ → Mate
matched s u t w = record { one = s; at_one = u; two = t; at_two = w }

-- each inner set of the branches with its mate
abbrev pub part_off : Branches → List Mate
part_off leaf = []
part_off (branch o i inner a b outer sub rest) =
    matched inner a outer b ∷ (part_off sub ++ part_off rest)

-- all sets of a tree but the outer set x: each set on the way from x to the root is matched to the
-- one below it, and elsewhere each inner set keeps its mate
abbrev pub turn_about : (top : Side) (bs : Branches) (x : Side) → IsOuter top bs x → List Mate
turn_about top bs x root = part_off bs
turn_about top (branch o i inner a b outer sub rest) x (below q) =
    matched top o inner i ∷ (turn_about outer sub x q ++ part_off rest)
turn_about top (branch o i inner a b outer sub rest) x (beside q) =
    matched inner a outer b ∷ (turn_about top rest x q ++ part_off sub)

-- ---- shrink
-- the set, joined to the next one by the pair of a in it and b in the next
abbrev pub joined : Side → ℕ → ℕ → Side
joined s a b = record { body = s.body; number = s.number; out = a; into = b }

-- both branches on one set
abbrev pub all_on : Branches → Branches → Branches
all_on leaf cs = cs
all_on (branch o i inner a b outer sub rest) cs = branch o i inner a b outer sub (all_on rest cs)

-- the way down from the top to the outer set x, without x
abbrev pub way_down : (top : Side) (bs : Branches) (x : Side) → IsOuter top bs x → List Side
way_down top bs x root = []
way_down top (branch o i inner a b outer sub rest) x (below q) =
    joined top o i ∷ joined inner a b ∷ way_down outer sub x q
way_down top (branch o i inner a b outer sub rest) x (beside q) = way_down top rest x q

-- the way up from the outer set x to the top, without the top
abbrev pub way_up : (top : Side) (bs : Branches) (x : Side) → IsOuter top bs x → List Side
way_up top bs x root = []
way_up top (branch o i inner a b outer sub rest) x (below q) =
    way_up outer sub x q ++ joined outer b a ∷ joined inner i o ∷ []
way_up top (branch o i inner a b outer sub rest) x (beside q) = way_up top rest x q

-- what hangs on the outer sets from the top to x, without the way between them
abbrev pub off_way : (top : Side) (bs : Branches) (x : Side) → IsOuter top bs x → Branches
off_way top bs x root = bs
off_way top (branch o i inner a b outer sub rest) x (below q) =
    all_on (off_way outer sub x q) rest
off_way top (branch o i inner a b outer sub rest) x (beside q) =
    branch o i inner a b outer sub (off_way top rest x q)

-- from the top down to x, over the pair of u in x and w in y, and up from y
abbrev pub ring_at : (top : Side) (bs : Branches) (x : Side) → IsOuter top bs x → (y : Side) →
    IsOuter top bs y → ℕ → ℕ → List Side
ring_at top bs x p y q u w = way_down top bs x p ++ joined x u w ∷ way_up top bs y q

-- to which of two outer sets a ring leads down from the lowest set above both
pub data Sense : Type 0 where
  to_first : Sense
  to_second : Sense

-- the ring that the pair of u in x and w in y closes; it begins with the lowest set above both
abbrev pub ring_between : (top : Side) (bs : Branches) (x y : Side) → AreTwo top bs x y → Sense →
    ℕ → ℕ → List Side
ring_between top leaf x y two sense u w = elim two [ ]
ring_between top (branch o i inner a b outer sub rest) x y (split p q) to_first u w =
    ring_at top (branch o i inner a b outer sub rest) x (below p) y (beside q) u w
ring_between top (branch o i inner a b outer sub rest) x y (split p q) to_second u w =
    ring_at top (branch o i inner a b outer sub rest) y (beside q) x (below p) w u
ring_between top (branch o i inner a b outer sub rest) x y (both_below k) sense u w =
    ring_between outer sub x y k sense u w
ring_between top (branch o i inner a b outer sub rest) x y (both_beside k) sense u w =
    ring_between top rest x y k sense u w

-- the top where the set r stands in place of the ring that two outer sets close
abbrev pub top_with : (top : Side) (bs : Branches) (x y : Side) → AreTwo top bs x y → Side → Side
top_with top leaf x y two r = elim two [ ]
top_with top (branch o i inner a b outer sub rest) x y (split p q) r = r
top_with top (branch o i inner a b outer sub rest) x y (both_below k) r = top
top_with top (branch o i inner a b outer sub rest) x y (both_beside k) r = top_with top rest x y k r

-- and its branches; what hung on the ring's sets hangs on r
abbrev pub branches_with : (top : Side) (bs : Branches) (x y : Side) → AreTwo top bs x y → Side →
    Branches
branches_with top leaf x y two r = elim two [ ]
branches_with top (branch o i inner a b outer sub rest) x y (split p q) r =
    all_on (off_way top rest y q) (off_way outer sub x p)
branches_with top (branch o i inner a b outer sub rest) x y (both_below k) r =
    branch o i inner a b (top_with outer sub x y k r) (branches_with outer sub x y k r) rest
branches_with top (branch o i inner a b outer sub rest) x y (both_beside k) r =
    branch o i inner a b outer sub (branches_with top rest x y k r)

-- the sets of a ring as one set, with the number 0
abbrev pub as_one : List Side → Side
as_one ss = record { body = ring_of ss; number = pos 0; out = 0; into = 0 }

-- the tree with the ring that two outer sets close as one set
abbrev pub close_ring : (tree : Tree) (x y : Side) → AreTwo tree.root tree.branches x y → Sense →
    ℕ → ℕ → Tree
close_ring tree x y two sense u w =
    let r = as_one (ring_between tree.root tree.branches x y two sense u w) in
    record {
      root = top_with tree.root tree.branches x y two r;
      branches = branches_with tree.root tree.branches x y two r;
    }

-- ---- expand
-- how an inner set hangs in its tree: by a vertex of the set above and its own vertex `at`; and
-- what hangs on it: by its vertex `out` and a vertex of its mate, the mate with its branches
pub record Hold : Type 0 where
  pub above : ℕ
  pub at : ℕ
  pub out : ℕ
  pub mate : ℕ
  pub outer : Side
  pub branches : Branches

abbrev pub hold_of : (bs : Branches) (x : Side) → IsInner bs x → Hold
hold_of leaf x q = elim q [ ]
hold_of (branch o i inner a b outer sub rest) x here =
    record { above = o; at = i; out = a; mate = b; outer = outer; branches = sub }
hold_of (branch o i inner a b outer sub rest) x (under q) = hold_of sub x q
hold_of (branch o i inner a b outer sub rest) x (after q) = hold_of rest x q

-- the branches with new ones in place of an inner set and all that hangs on it
abbrev pub in_place : (bs : Branches) (x : Side) → IsInner bs x → Branches → Branches
in_place leaf x q new = elim q [ ]
in_place (branch o i inner a b outer sub rest) x here new = all_on new rest
in_place (branch o i inner a b outer sub rest) x (under q) new =
    branch o i inner a b outer (in_place sub x q new) rest
in_place (branch o i inner a b outer sub rest) x (after q) new =
    branch o i inner a b outer sub (in_place rest x q new)

-- a ring, begun with the child that hangs on the set above, and parted at the child that has the
-- mate
pub record Parted (ss : List Side) (h : Hold) : Type 0 where
  pub before : List Side
  pub upper : Side
  pub behind : List Side
  pub whole : ss ≡ before ++ upper ∷ behind
  pub hangs : has upper h.at
  pub way : List Side
  pub lower : Side
  pub beyond : List Side
  pub round : upper ∷ (behind ++ before) ≡ way ++ lower ∷ beyond
  pub holds : has lower h.out

-- children that hang on one another in the order of the ring, from the upper to the lower one; each
-- second one is outer
abbrev pub chain_forth : ℕ → ℕ → List Side → Side → Hold → Branches
chain_forth o i [] q h = branch o i q h.out h.mate h.outer h.branches leaf
chain_forth o i (s ∷ []) q h = leaf
chain_forth o i (s ∷ r ∷ way) q h =
    branch o i s s.out s.into r (chain_forth r.out r.into way q h) leaf

-- the same, where the ring's order leads from the lower to the upper one
abbrev pub chain_back : List Side → Side → Hold → Branches
chain_back [] p h = branch h.above h.at p h.out h.mate h.outer h.branches leaf
chain_back (q ∷ []) p h = leaf
chain_back (q ∷ b ∷ way) p h = chain_back way p (record {
  above = h.above;
  at = h.at;
  out = b.into;
  mate = b.out;
  outer = b;
  branches = branch q.into q.out q h.out h.mate h.outer h.branches leaf;
})

-- children as matched pairs, each with the next
abbrev pub pair_off : List Side → List Mate
pair_off [] = []
pair_off (s ∷ []) = []
pair_off (s ∷ r ∷ ss) = matched s s.out r s.into ∷ pair_off ss

abbrev pub all_but_first : List Side → List Side
all_but_first [] = []
all_but_first (s ∷ ss) = ss

-- what becomes of a ring that is opened: branches in its place, and matched pairs
pub record Opening : Type 0 where
  pub branches : Branches
  pub mates : List Mate

-- the way from the upper to the lower child that has an odd number of children stays in the tree
abbrev pub opening : List Side → Side → List Side → Side → Hold → Opening
opening way lower beyond upper h = cond (length way % 2 == 0) (record {
  branches = chain_forth h.above h.at way lower h;
  mates = pair_off beyond;
}) (record {
  branches = chain_back (lower ∷ beyond) upper h;
  mates = pair_off (all_but_first way);
})

abbrev pub opened : (ss : List Side) (h : Hold) → Parted ss h → Opening
opened ss h k = opening k.way k.lower k.beyond k.upper h

-- a ring with the number 0 as an inner set
abbrev pub as_inner : List Side → ℕ → ℕ → Side
as_inner ss a b = record { body = ring_of ss; number = pos 0; out = a; into = b }
