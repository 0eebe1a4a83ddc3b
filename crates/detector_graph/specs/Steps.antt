-- Steps along a part's edges, and how far it is from each place to the free ends. Edge k gives two
-- steps: number 2k goes from its first end to its second, and number 2k + 1 back. The free ends are
-- one vertex, numbered after the places.
use Rattle.std.specs.Prelude.{◌≡◌, ◌≤◌, ◌<◌, ℕ, suc, ◌+◌, List, [], ◌∷◌, All, Contains, length, slice_index, slice_index_or, ◌⊎◌}
use Rattle.std.specs.Option.{option_map_or}
use Rattle.graph_model.specs.Problems.{Part, IsPart}
use Rattle.graph_model.specs.declared.PartEdge.{PartEdge}
use Rattle.detector_graph.specs.Rows.{group_of}

-- the second end of an edge: a place, or the free ends
abbrev pub far_of : ℕ → PartEdge → ℕ
far_of places edge = option_map_or (λ x. x) edge.second places

-- where each step begins
abbrev pub step_starts : ℕ → List PartEdge → List ℕ
step_starts places [] = []
step_starts places (edge ∷ edges) = edge.first ∷ far_of places edge ∷ step_starts places edges

-- a walk of the edges to the free ends, by its weight
pub data LeadsHome (places : ℕ) (edges : List PartEdge) : ℕ → ℕ → Type 0 where
  home : LeadsHome places edges places 0
  forth : {n : ℕ} (edge : PartEdge) → Contains edges edge →
      LeadsHome places edges (far_of places edge) n →
      LeadsHome places edges edge.first (edge.weight + n)
  back : {n : ℕ} (edge : PartEdge) → Contains edges edge →
      LeadsHome places edges edge.first n → LeadsHome places edges (far_of places edge)
      (edge.weight + n)

-- more than a least walk weighs: what stands where no walk was found yet
abbrev pub no_way : ℕ
no_way = 10000000

-- weights of walks to the free ends
pub record AreLed (places : ℕ) (edges : List PartEdge) (homes : List ℕ) : Type 0 where
  pub count : length homes ≡ suc places
  pub low : All (λ d. d ≤ no_way) homes
  pub end_ : slice_index homes places ≡ 0
  pub led : (v : ℕ) → v < suc places →
      (slice_index homes v ≡ no_way) ⊎ LeadsHome places edges v (slice_index homes v)

-- neither end of the edge is farther than the edge and the way from its other end
pub record IsCloseEdge (places : ℕ) (homes : List ℕ) (edge : PartEdge) : Type 0 where
  pub first : slice_index homes edge.first ≤ slice_index homes (far_of places edge) + edge.weight
  pub far : slice_index homes (far_of places edge) ≤ slice_index homes edge.first + edge.weight

-- for each vertex the weight of a least walk to the free ends
pub record AreHomes (places : ℕ) (edges : List PartEdge) (homes : List ℕ) : Type 0 where
  pub led : AreLed places edges homes
  pub close : All (IsCloseEdge places homes) edges

-- a part with the steps that leave each vertex, and how far it is to the free ends
pub record IsMapped (part : Part) (rows : List (List ℕ)) (homes : List ℕ) : Type 0 where
  pub is_part : IsPart part
  pub count : length rows ≡ suc (length part.detectors)
  pub leave : (v : ℕ) → slice_index_or rows v [] ≡ group_of
      (step_starts (length part.detectors) part.edges) v
  pub homes_are : AreHomes (length part.detectors) part.edges homes
