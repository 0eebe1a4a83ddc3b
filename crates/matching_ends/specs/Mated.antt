-- The mates of vertices. Inside a blossom all vertices but one have mates, and at the end of a
-- search each vertex with its mate is a perfect matching that the numbers show least.
use Rattle.std.specs.Prelude.{◌≡◌, ℕ, ◌*◌, List, [], ◌∷◌, ◌++◌, map, filter, nat_lt, pos}
use Rattle.std.specs.List.{range_with_len}
use Rattle.matching_model.specs.Matchings.{IsPerfectMatching, matching_cost}
use Rattle.matching_model.specs.Certificates.{IsDual, whole_sum}
use Rattle.matching_model.specs.Blossoms.{Blossom, vertex, Side, ring_of}
use Rattle.matching_model.specs.Forests.{Mate, IsSound}
use Rattle.matching_model.specs.Numbers.{numbers_of}

-- two vertices are each other's mates
abbrev pub AreMates : (ℕ → ℕ) → ℕ → ℕ → Type 0
AreMates mate u w = (mate u ≡ w) × (mate w ≡ u)

mutual
  -- the vertices of a blossom but v are mated inside it: the child with v leaves v out, and the
  -- other children of the ring are mated two by two, from the one after that child on
  pub data LeavesOut (mate : ℕ → ℕ) : Blossom → ℕ → Type 0 where
    alone : {v : ℕ} → LeavesOut mate (vertex v) v
    ring : {b : Blossom} {v : ℕ} (before : List Side) (s : Side) (behind : List Side) →
        b ≡ ring_of (before ++ s ∷ behind) → LeavesOut mate s.body v →
        TwoByTwo mate (behind ++ before) → LeavesOut mate b v

  -- each two children by the pair that joins them
  pub data TwoByTwo (mate : ℕ → ℕ) : List Side → Type 0 where
    no_more : TwoByTwo mate []
    two_more : {s t : Side} {ss : List Side} → AreMates mate s.out s.into →
        LeavesOut mate s.body s.out → LeavesOut mate t.body s.into → TwoByTwo mate ss →
        TwoByTwo mate (s ∷ t ∷ ss)

-- matched sets outside the trees: their two vertices are mates, and so are the others inside them
abbrev pub AreMated : (ℕ → ℕ) → List Mate → Type 0
AreMated mate [] = Unit {0}
AreMated mate (p ∷ ps) = (AreMates mate p.at_one p.at_two × LeavesOut mate p.one.body p.at_one
    × LeavesOut mate p.two.body p.at_two) × AreMated mate ps

-- the sets of all pairs
abbrev pub sides_of : List Mate → List Side
sides_of [] = []
sides_of (p ∷ ps) = p.one ∷ p.two ∷ sides_of ps

-- each of n vertices that is below its mate, with its mate
abbrev pub mated_pairs : ℕ → (ℕ → ℕ) → List (ℕ × ℕ)
mated_pairs n mate = map (λ v. (v, mate v)) (filter (λ v. nat_lt v (mate v)) (range_with_len 0 n))

-- where no tree is left, the vertices with their mates are a perfect matching, and the numbers
-- reach its cost
abbrev pub MateLaw : Type 0
MateLaw = (dist : ℕ → ℕ → ℕ) → ((u v : ℕ) → dist u v ≡ dist v u) → (n : ℕ) (mates : List Mate) →
    IsSound dist n (record { trees = []; mates = mates }) →
    (mate : ℕ → ℕ) → AreMated mate mates → IsPerfectMatching n (mated_pairs n mate)
    × IsDual n dist (numbers_of n (ring_of (sides_of mates)))
    × (whole_sum (numbers_of n (ring_of (sides_of mates)))
    ≡ pos (2 * matching_cost dist (mated_pairs n mate)))
