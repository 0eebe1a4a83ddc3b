-- Tables of least walk weights between the members of a problem, with the steps of least walks.
use Rattle.std.specs.Prelude.{◌≡◌, ◌≤◌, ◌<◌, ℕ, suc, ◌+◌, ◌-◌, ◌*◌, ◌%◌, ◌==◌, ◌&&◌, cond, nat_lt, true, List, ◌++◌, length, map, All, Contains, slice_index, slice_index_or, sum_by}
use Rattle.std.specs.List.Sorted.{IsStrictlyIncreasing}
use Rattle.graph_model.specs.Graph.{is_in}
use Rattle.graph_model.specs.Parity.{◌⊕◌, parity}
use Rattle.graph_model.specs.Problems.{Problem, meets, problem_weight}
use Rattle.graph_model.specs.declared.PartEdge.{PartEdge}
use Rattle.matching_model.specs.Certificates.{AreDistances, IsDistance, free_end, member_at, members}
use Rattle.dist_search.specs.Hops.{AreSame, IsClose, Way, hops_from, most_distance, nearer}
use Rattle.dist_search.specs.declared.star.Hop.{Hop}
use Rattle.dist_search.specs.declared.search.Step.{Step}
use Rattle.dist_search.specs.declared.homes.Route.{Route}
use Rattle.graph_model.specs.Limits.{most_places}

-- the edges of a walk from u to v of weight d
pub record IsWay (p : Problem) (u v d : ℕ) (way : List ℕ) : Type 0 where
  pub listed : (e : ℕ) → is_in way e ≡ true →
      is_in (map (λ (edge : PartEdge). edge.edge) p.part.edges) e ≡ true
  pub odd : (x : ℕ) → x < free_end p → parity (meets p.part x) way ≡ (u == x) ⊕ (v == x)
  pub weight : sum_by (problem_weight p) way ≡ d

-- the steps before the two ends of the route are a walk from u to v of weight d
pub record IsRoute (p : Problem) (steps : List Step) (u v d : ℕ) (route : Route) : Type 0 where
  pub one : List ℕ
  pub two : List ℕ
  pub first : Way steps route.first one
  pub second : Way steps route.second two
  pub between : IsWay p u v d (one ++ two)

-- an ascending list of what stands in the other an odd number of times
pub record IsOdd (edges set : List ℕ) : Type 0 where
  pub ascending : IsStrictlyIncreasing set
  pub odd : (e : ℕ) → is_in set e ≡ parity (λ d. d == e) edges

-- the weights of least walks from the free ends to all vertices, and for each of some vertices
-- where the steps of such a walk end
pub record AreHomes (p : Problem) (vertices weights ends : List ℕ) (steps : List Step) : Type 0
  where
    pub count : length weights ≡ suc (free_end p)
    pub count_ends : length ends ≡ suc (free_end p)
    pub low : All (λ d. d ≤ most_distance) weights
    pub distance : (v : ℕ) → v < suc (free_end p) →
        IsDistance p (free_end p) v (slice_index weights v)
    pub way : (v : ℕ) → Contains vertices v → (way : List ℕ) × Way steps (slice_index ends v) way
        × IsWay p (free_end p) v (slice_index weights v) way

-- the steps of the problem by what they cost more than they lead nearer to the free ends
pub record AreNear (p : Problem) (weights : List ℕ) (near : List Hop) : Type 0 where
  pub hops : List Hop
  pub same : AreSame (hops_from p p.part.edges) hops
  pub close : All (IsClose weights) hops
  pub are : near ≡ map (nearer weights) hops

-- the walk from u to v by what a search from u left there, or else through the free ends
abbrev pub weight_between : (weights left : List ℕ) → ℕ → ℕ → ℕ
weight_between weights left u v = slice_index weights u + slice_index weights v - slice_index left v

abbrev pub route_between : (home_ends left ends : List ℕ) → ℕ → ℕ → Route
route_between home_ends left ends u v = cond (nat_lt 0 (slice_index left v))
    (record { first = slice_index ends v; second = 0 })
    (record { first = slice_index home_ends u; second = slice_index home_ends v })

-- the members by their vertices, the distances row by row, and for each the ends of a walk among
-- the steps
pub record Distances : Type 0 where
  pub members : List ℕ
  pub entries : List ℕ
  pub routes : List Route
  pub steps : List Step

-- past the members it is 0
abbrev pub dist_of : Distances → ℕ → ℕ → ℕ
dist_of t i j = cond (nat_lt i (length t.members) && nat_lt j (length t.members))
    (slice_index t.entries (i * length t.members + j)) 0

-- what holds of each table
pub record IsTable (t : Distances) : Type 0 where
  pub size : length t.entries ≡ length t.members * length t.members
  pub size_routes : length t.routes ≡ length t.members * length t.members
  pub few : length t.members ≤ most_places
  pub even : length t.members % 2 ≡ 0
  pub turn : (i j : ℕ) → dist_of t i j ≡ dist_of t j i
  pub low : (i j : ℕ) → dist_of t i j ≤ most_distance

-- the table is of this problem
pub record IsTableOf (p : Problem) (t : Distances) : Type 0 where
  pub members_are : t.members ≡ members p
  pub distances : AreDistances p (dist_of t)
  pub walks : (i j : ℕ) (d : Route) → i < length t.members →
      j < length t.members → IsRoute p t.steps (member_at p i) (member_at p j) (dist_of t i j)
      (slice_index_or t.routes (i * length t.members + j) d)

-- the distances of the first k of these vertices to all of them, and a walk for each
pub record AreRows (p : Problem) (vertices : List ℕ) (k : ℕ) (entries : List ℕ)
    (routes : List Route) (steps : List Step) : Type 0 where
  pub size : length entries ≡ k * length vertices
  pub size_routes : length routes ≡ k * length vertices
  pub distance : (i j : ℕ) → i < k → j < length vertices → IsDistance p (slice_index vertices i)
      (slice_index vertices j) (slice_index entries (i * length vertices + j))
  pub route : (i j : ℕ) (d : Route) → i < k → j < length vertices →
      IsRoute p steps (slice_index vertices i) (slice_index vertices j) (slice_index entries (i
      * length vertices + j)) (slice_index_or routes (i * length vertices + j) d)
  pub low : All (λ d. d ≤ most_distance) entries
