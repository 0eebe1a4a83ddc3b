-- Edmonds' dual conditions: numbers that show a correction least. The members are the places with a
-- defect, and where these are odd in number the one vertex that stands for all free ends; a
-- correction pairs them by walks. A certificate has a number for each member and for some odd sets
-- of members, so that no two members' numbers and those of the sets between them exceed twice their
-- distance. Every correction then weighs at least half the sum of all numbers, and one that weighs
-- just that is least.
use Rattle.std.specs.Prelude.{◌≡◌, ◌≤◌, ◌<◌, ℕ, suc, ◌+◌, ◌%◌, ◌*◌, Bool, false, ◌==◌, cond, List, length, map, filter, All, Contains, slice_index_or, sum_by, ℤ, pos, ◌+ℤ◌, ◌≤ℤ◌, ◌<ℤ◌}
use Rattle.std.specs.List.{range_with_len}
use Rattle.std.specs.List.Sorted.{IsStrictlyIncreasing}
use Rattle.std.specs.Option.{option_map_or}
use Rattle.graph_model.specs.Parity.{◌⊕◌, parity}
use Rattle.graph_model.specs.Graph.{is_in}
use Rattle.graph_model.specs.Corrections.{IsCorrection}
use Rattle.graph_model.specs.Problems.{Problem, meets, problem_weight, Solves}
use Rattle.graph_model.specs.declared.PartEdge.{PartEdge}
use Rattle.matching_model.specs.Sums.{int_sum_by, counted}

-- the vertex of all free ends is numbered after the places
abbrev pub free_end : Problem → ℕ
free_end p = length p.part.detectors

-- the second end of an edge: a place, or the vertex of all free ends
abbrev pub far_end : Problem → PartEdge → ℕ
far_end p edge = option_map_or (λ x. x) edge.second (free_end p)

-- the edges' numbers rise, and each edge joins two different vertices
pub record IsProblem (p : Problem) : Type 0 where
  pub numbered : IsStrictlyIncreasing (map (λ (edge : PartEdge). edge.edge) p.part.edges)
  pub first_in : All (λ (edge : PartEdge). edge.first < free_end p) p.part.edges
  pub second_in : All (λ (edge : PartEdge). far_end p edge ≤ free_end p) p.part.edges
  pub two_ends : All (λ (edge : PartEdge). edge.first ≡ far_end p edge → ⊥) p.part.edges

-- a walk along the part's edges, by its weight; it may pass through the free ends
pub data Walk (p : Problem) : ℕ → ℕ → ℕ → Type 0 where
  stay : {u : ℕ} → Walk p u u 0
  forth : {v n : ℕ} (edge : PartEdge) → Contains p.part.edges edge → Walk p (far_end p edge) v n →
      Walk p edge.first v (problem_weight p edge.edge + n)
  back : {v n : ℕ} (edge : PartEdge) → Contains p.part.edges edge → Walk p edge.first v n →
      Walk p (far_end p edge) v (problem_weight p edge.edge + n)

-- the least weight of a walk
pub record IsDistance (p : Problem) (u v d : ℕ) : Type 0 where
  pub walk : Walk p u v d
  pub least : (n : ℕ) → Walk p u v n → d ≤ n

-- whether the place has a defect
abbrev pub has_defect : Problem → ℕ → Bool
has_defect p place = slice_index_or p.defects place false

-- the vertex of the free ends is to be matched where the places with a defect are odd in number
abbrev pub is_member : Problem → ℕ → Bool
is_member p x = cond (x == free_end p) (parity (has_defect p) (range_with_len 0 (free_end p)))
    (has_defect p x)

-- the vertices to be matched, in ascending order
abbrev pub members : Problem → List ℕ
members p = filter (is_member p) (range_with_len 0 (suc (free_end p)))

-- a number for each member, and sets of members, named by their places, with a number each
pub record Certificate : Type 0 where
  pub vertex : List ℤ
  pub sets : List (List ℕ × ℤ)

-- whether the set holds just one of the two
abbrev pub parts : ℕ → ℕ → List ℕ → Bool
parts i j set = is_in set i ⊕ is_in set j

-- what a certificate says of a pair of members: their two numbers and those of the sets that hold
-- just one of them
abbrev pub pair_sum : Certificate → ℕ → ℕ → ℤ
pair_sum c i j = (slice_index_or c.vertex i (pos 0) +ℤ slice_index_or c.vertex j (pos 0)) +ℤ
    int_sum_by (λ (s : List ℕ × ℤ). counted (parts i j s.0) s.1) c.sets

-- all numbers, added up
abbrev pub whole_sum : Certificate → ℤ
whole_sum c = int_sum_by (λ z. z) c.vertex +ℤ int_sum_by (λ (s : List ℕ × ℤ). s.1) c.sets

-- an odd set of members, by their places in ascending order, with a number above 0
pub record IsOddSet (count : ℕ) (s : List ℕ × ℤ) : Type 0 where
  pub ascending : IsStrictlyIncreasing s.0
  pub in_range : All (λ i. i < count) s.0
  pub odd : length s.0 % 2 ≡ 1
  pub positive : pos 0 <ℤ s.1

-- the conditions on `vertex`, on `sets` and on every two of n members at distances `dist`
pub record IsDual (n : ℕ) (dist : ℕ → ℕ → ℕ) (c : Certificate) : Type 0 where
  pub each_member : length c.vertex ≡ n
  pub odd_sets : All (IsOddSet n) c.sets
  pub cheap : (i j : ℕ) → i < j → j < n → pair_sum c i j ≤ℤ pos (2 * dist i j)

-- the member at this place among the members
abbrev pub member_at : Problem → ℕ → ℕ
member_at p i = slice_index_or (members p) i (free_end p)

-- `dist` gives the least walk weights between members
abbrev pub AreDistances : Problem → (ℕ → ℕ → ℕ) → Type 0
AreDistances p dist = (i j : ℕ) → i < length (members p) → j < length (members p) →
    IsDistance p (member_at p i) (member_at p j) (dist i j)

-- The certificate fits the problem and the set: so no correction weighs less.
pub record Fits (p : Problem) (dist : ℕ → ℕ → ℕ) (set : List ℕ) (c : Certificate) : Type 0 where
  pub correction : IsCorrection (meets p.part) (range_with_len 0 (free_end p))
      (map (λ (edge : PartEdge). edge.edge) p.part.edges) (has_defect p) set
  pub dual : IsDual (length (members p)) dist c
  pub tight : whole_sum c ≡ pos (2 * sum_by (problem_weight p) set)

-- a set that some certificate fits is least
abbrev pub WeakDuality : Type 0
WeakDuality = (p : Problem) → IsProblem p → (dist : ℕ → ℕ → ℕ) → AreDistances p dist →
    (set : List ℕ) (c : Certificate) → Fits p dist set c → Solves p set
