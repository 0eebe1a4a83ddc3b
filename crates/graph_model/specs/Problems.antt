-- Matching problems: the part of a graph that one window decodes, by itself, with its defects. In a
-- part a detector goes by its place, its index in the part's list of detectors. Edges keep their
-- numbers of the whole graph. An edge with one place has a free end: its other end lies outside the
-- window or is the open boundary, and carries no condition.
use Rattle.std.specs.Prelude.{◌≡◌, ◌≢◌, ◌<◌, ◌≤◌, ℕ, Bool, true, false, ◌==◌, ◌&&◌, List, [], ◌∷◌, length, map, filter, find, option_to_list, slice_index_or, IfSome, All, Any}
use Rattle.std.specs.List.{list_any, range_with_len}
use Rattle.std.specs.List.Sorted.{IsStrictlyIncreasing}
use Rattle.std.specs.Option.{option_map_or}
use Rattle.graph_model.specs.Limits.{most_edges, most_places, most_weight}
use Rattle.graph_model.specs.Graph.{is_in}
use Rattle.graph_model.specs.Corrections.{IsLeastCorrection}
use Rattle.graph_model.specs.declared.PartEdge.{PartEdge}

-- a window's number, its detectors by their numbers in the graph, and its edges
pub record Part : Type 0 where
  pub window : ℕ
  pub detectors : List ℕ
  pub edges : List PartEdge

-- a part with its defects: a truth value for each place
pub record Problem : Type 0 where
  pub part : Part
  pub defects : List Bool

-- the places at the ends of an edge: one or two
abbrev pub places_of : PartEdge → List ℕ
places_of edge = edge.first ∷ option_to_list edge.second

-- whether the edge of this number has the place for an end
abbrev pub meets : Part → ℕ → ℕ → Bool
meets part place e = list_any (λ edge. edge.edge == e && is_in (places_of edge) place) part.edges

-- the weight of the edge of this number
abbrev pub problem_weight : Problem → ℕ → ℕ
problem_weight p e =
    option_map_or (λ edge. edge.weight) (find (λ edge. edge.edge == e) p.part.edges) 0

-- a set of the part's edges whose boundary is the defects, of least weight
abbrev pub Solves : Problem → List ℕ → Type 0
Solves p set =
    IsLeastCorrection (meets p.part) (problem_weight p) (range_with_len 0 (length p.part.detectors))
    (map (λ (edge : PartEdge). edge.edge) p.part.edges)
    (λ place. slice_index_or p.defects place false) set

-- of a set of edges those that the window owns: it commits these, and leaves the others to later
-- windows
abbrev pub owned_members : Part → List ℕ → List ℕ
owned_members part set = filter (λ e. list_any (λ edge. edge.edge == e && edge.owned) part.edges)
    set

-- a walk of the part's edges leads from the place to a free end, so that a defect there can be
-- matched
pub data IsOpen (part : Part) : ℕ → Type 0 where
  free : {place : ℕ} → Any (λ edge. places_of edge ≡ place ∷ []) part.edges → IsOpen part place
  along : {place other : ℕ} → Any (λ edge. (is_in (places_of edge) place ≡ true)
      × (is_in (places_of edge) other ≡ true)) part.edges → IsOpen part other → IsOpen part place

-- an edge whose ends are among this many places
pub record IsPartEdge (places : ℕ) (edge : PartEdge) : Type 0 where
  pub first : edge.first < places
  pub second : IfSome edge.second (λ other. (other < places) × (other ≢ edge.first))
  pub weight : edge.weight ≤ most_weight

-- a part that can be solved for any defects
pub record IsPart (part : Part) : Type 0 where
  pub few_detectors : length part.detectors ≤ most_places
  pub few_edges : length part.edges ≤ most_edges
  pub ascending : IsStrictlyIncreasing (map (λ (edge : PartEdge). edge.edge) part.edges)
  pub fits : All (IsPartEdge (length part.detectors)) part.edges
  pub is_open : (place : ℕ) → place < length part.detectors → IsOpen part place

-- a problem with a least set, and the members that the window owns
pub record Decoding : Type 0 where
  pub problem : Problem
  pub set : List ℕ
  pub kept : List ℕ
