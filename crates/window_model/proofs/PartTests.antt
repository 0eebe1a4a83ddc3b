-- Parts of small windows, and a grounded graph.
use Rattle.std.proofs.Common.{◌≡◌, ℕ, zero, suc, Bool, true, false, [], ◌∷◌, map, refl, arith, None, Some, Option}
use Rattle.graph_model.specs.Problems.{Part, meets, problem_weight, owned_members}
use Rattle.graph_model.specs.declared.PartEdge.{PartEdge}
use Rattle.window_model.specs.Windows.{window_of}
use Rattle.window_model.specs.Parts.{part_over}
use Rattle.window_model.specs.Grounded.{leaves, stays, IsGrounded}
use Rattle.window_model.proofs.OnePatch.{read_at_one, read_at_two, tags_one, tags_two, homes_one, homes_two}

abbrev edge : ℕ → ℕ → Option ℕ → ℕ → Bool → PartEdge
edge e first second weight owned = record {
  edge = e;
  first = first;
  second = second;
  weight = weight;
  owned = owned;
}

-- the later slot goes first: its edges to the slot between, which has the higher rank, are free
-- there, though that end is their first
abbrev above : Part
above = part_over (read_at_two 2 3) 1 (window_of (read_at_two 2 3) tags_two homes_two 3 0 1)

above_is : above ≡ record {
  window = 1;
  detectors = 12 ∷ 13 ∷ 14 ∷ 15 ∷ [];
  edges = edge 36 0 None 3 true ∷ edge 38 1 None 3 true ∷ edge 39 2 None 3 true
      ∷ edge 41 3 None 3 true ∷ edge 43 0 None 2 true
      ∷ edge 44 0 None 2 true ∷ edge 45 1 None 2 true ∷ edge 46 0 (Some 2) 2 true
      ∷ edge 47 0 (Some 3) 2 true ∷ edge 48 1 (Some 3) 2 true
      ∷ edge 49 2 None 2 true ∷ edge 50 3 None 2 true ∷ edge 51 3 None 2 true ∷ [];
}
above_is = refl

-- with a buffer the first slot's window has the edges of the next, which it doesn't own
abbrev buffered : Part
buffered = part_over (read_at_one 2 3) 0 (window_of (read_at_one 2 3) tags_one homes_one 2 1 0)

buffered_is : buffered ≡ record {
  window = 0;
  detectors = 0 ∷ 1 ∷ 2 ∷ 3 ∷ 4 ∷ 5 ∷ 6 ∷ 7 ∷ [];
  edges = edge 0 0 None 2 true ∷ edge 1 0 None 2 true ∷ edge 2 1 None 2 true
      ∷ edge 3 0 (Some 2) 2 true ∷ edge 4 0 (Some 3) 2 true
      ∷ edge 5 1 (Some 3) 2 true ∷ edge 6 2 None 2 true ∷ edge 7 3 None 2 true
      ∷ edge 8 3 None 2 true ∷ edge 9 0 (Some 4) 3 true
      ∷ edge 10 1 (Some 5) 3 true ∷ edge 11 2 (Some 6) 3 true ∷ edge 12 3 (Some 7) 3 true
      ∷ edge 13 4 None 2 false ∷ edge 14 4 None 2 false
      ∷ edge 15 5 None 2 false ∷ edge 16 4 (Some 6) 2 false ∷ edge 17 4 (Some 7) 2 false
      ∷ edge 18 5 (Some 7) 2 false ∷ edge 19 6 None 2 false
      ∷ edge 20 7 None 2 false ∷ edge 21 7 None 2 false ∷ [];
}
buffered_is = refl

-- the next window has none of the first one's edges, though they end in it
abbrev behind : Part
behind = part_over (read_at_one 2 3) 1 (window_of (read_at_one 2 3) tags_one homes_one 2 0 1)

behind_is : behind ≡ record {
  window = 1;
  detectors = 4 ∷ 5 ∷ 6 ∷ 7 ∷ [];
  edges = edge 13 0 None 2 true ∷ edge 14 0 None 2 true ∷ edge 15 1 None 2 true
      ∷ edge 16 0 (Some 2) 2 true ∷ edge 17 0 (Some 3) 2 true
      ∷ edge 18 1 (Some 3) 2 true ∷ edge 19 2 None 2 true ∷ edge 20 3 None 2 true
      ∷ edge 21 3 None 2 true ∷ [];
}
behind_is = refl

-- edges go by their numbers in the graph, and their ends by places
reading : meets above 0 36 ∷ meets above 2 46 ∷ meets above 1 46 ∷ meets above 0 0 ∷ []
    ≡ true ∷ true ∷ false ∷ false ∷ []
reading = refl

weights : map (problem_weight (record { part = above; defects = [] })) (36 ∷ 43 ∷ 0 ∷ [])
    ≡ 3 ∷ 2 ∷ 0 ∷ []
weights = refl

owned : owned_members buffered (2 ∷ 9 ∷ 13 ∷ 21 ∷ []) ≡ 2 ∷ 9 ∷ []
owned = refl

-- each detector has an edge to the boundary, or one to a neighbour that has
grounded : IsGrounded (read_at_one 2 3) tags_one
grounded zero h = leaves 0 _ refl refl
grounded (suc zero) h = leaves 2 _ refl refl
grounded (suc (suc zero)) h = leaves 6 _ refl refl
grounded (suc (suc (suc zero))) h = stays 4 0 refl refl refl (leaves 0 _ refl refl)
grounded (suc (suc (suc (suc zero)))) h = leaves 13 _ refl refl
grounded (suc (suc (suc (suc (suc zero))))) h = leaves 15 _ refl refl
grounded (suc (suc (suc (suc (suc (suc zero)))))) h = leaves 19 _ refl refl
grounded (suc (suc (suc (suc (suc (suc (suc zero))))))) h = leaves 20 _ refl refl
grounded (suc (suc (suc (suc (suc (suc (suc (suc v)))))))) h = absurd (omega (arith, h))
