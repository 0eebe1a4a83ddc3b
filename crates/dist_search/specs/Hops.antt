-- The steps of a search: along an edge, from one of its ends to the other.
use Rattle.std.specs.Prelude.{◌≡◌, ◌≤◌, ◌<◌, ℕ, suc, ◌+◌, ◌-◌, ◌*◌, List, [], ◌∷◌, length, map, Contains, All, slice_index, slice_index_or, sum_by, ◌⊎◌}
use Rattle.graph_model.specs.Problems.{Problem, IsPart, problem_weight}
use Rattle.graph_model.specs.declared.PartEdge.{PartEdge}
use Rattle.matching_model.specs.Certificates.{far_end, free_end}
use Rattle.dist_search.specs.declared.star.Hop.{Hop}
use Rattle.dist_search.specs.declared.star.Sense.{Sense}
use Rattle.dist_search.specs.declared.star.Sense.TheVariants.{Outward, Homeward}
use Rattle.dist_search.specs.declared.search.Step.{Step}
use Rattle.dist_search.specs.declared.search.Queued.{Queued}
use Rattle.graph_model.specs.Limits.{most_weight}

-- no least walk weighs more
abbrev pub most_distance : ℕ
most_distance = 8193000

-- nor does a step by what it costs more than it leads nearer
abbrev pub most_step : ℕ
most_step = 10000000

-- nor has a search more to spend
abbrev pub most_budget : ℕ
most_budget = 20000000

-- both steps along each edge
abbrev pub hops_from : Problem → List PartEdge → List Hop
hops_from p [] = []
hops_from p (edge ∷ edges) =
    record {
      from = edge.first;
      to = far_end p edge;
      weight = problem_weight p edge.edge;
      edge = edge.edge;
    }
    ∷ record {
      from = far_end p edge;
      to = edge.first;
      weight = problem_weight p edge.edge;
      edge = edge.edge;
    }
    ∷ hops_from p edges

-- steps from vertices below n to vertices below n, of weights that can be added up
pub record IsHop (n : ℕ) (h : Hop) : Type 0 where
  pub from : h.from < n
  pub to : h.to < n
  pub weight : h.weight ≤ most_step

-- a step by what it costs more than it leads nearer to where the weights are measured from
abbrev pub nearer : List ℕ → Hop → Hop
nearer weights h = record {
  from = h.from;
  to = h.to;
  weight = slice_index weights h.from + h.weight - slice_index weights h.to;
  edge = h.edge;
}

-- a step that leads no more nearer than it weighs
pub record IsClose (weights : List ℕ) (h : Hop) : Type 0 where
  pub light : h.weight ≤ most_weight
  pub close : slice_index weights h.to ≤ slice_index weights h.from + h.weight

-- the step of a number; past the last it says nothing
abbrev pub hop_at : List Hop → ℕ → Hop
hop_at hops k = slice_index_or hops k (record { from = 0; to = 0; weight = 0; edge = 0 })

-- the vertices that the steps leave
abbrev pub starts_of : List Hop → List ℕ
starts_of = map (λ (h : Hop). h.from)

-- the same steps, in whatever order
pub record AreSame (hops hops' : List Hop) : Type 0 where
  pub only : (h : Hop) → Contains hops' h → Contains hops h
  pub every : (h : Hop) → Contains hops h → Contains hops' h

-- steps between vertices below a number
pub record Hops : Type 0 where
  pub vertices : ℕ
  pub hops : List Hop

-- weights by which the problem's steps are close, for each vertex
pub record IsStar (p : Problem) (weights : List ℕ) : Type 0 where
  pub is_part : IsPart p.part
  pub count : length weights ≡ suc (free_end p)
  pub low : All (λ d. d ≤ most_distance) weights
  pub close : All (IsClose weights) (hops_from p p.part.edges)

-- by how much each weight is below the greatest possible
abbrev pub nears_of : List ℕ → List ℕ
nears_of = map (λ d. most_distance - d)

-- what steps are measured by: how far it is to the free ends, or how near they are
abbrev pub measured : Sense → List ℕ → List ℕ
measured Outward weights = weights
measured Homeward weights = nears_of weights

-- weights of walks to the free ends by which the problem's steps are close
pub record IsStarIn (p : Problem) (sense : Sense) (weights : List ℕ) : Type 0 where
  pub star : IsStar p (measured sense weights)
  pub far : All (λ d. d ≤ most_distance) weights

-- the steps from `at` back to the start, last first: a way to v of weight d along the edges of
-- these numbers
pub data Trail (hops : List Hop) (steps : List Step) (start : ℕ) : ℕ → ℕ → ℕ → List ℕ → Type 0 where
  begun : {at v d : ℕ} {way : List ℕ} → at ≡ 0 → v ≡ start → d ≡ 0 → way ≡ [] →
      Trail hops steps start at v d way
  stepped : {at v d : ℕ} {way : List ℕ} (k d' : ℕ) (way' : List ℕ) (step : Step) (hop : Hop) →
      at ≡ suc k → k < length steps → step ≡ slice_index_or steps k step → step.before ≤ k →
      Contains hops hop → hop.edge ≡ step.edge → v ≡ hop.to → d ≡ d' + hop.weight →
      way ≡ step.edge ∷ way' → Trail hops steps start step.before hop.from d' way' →
      Trail hops steps start at v d way

-- the same, by the numbers of the edges alone
pub data Way (steps : List Step) : ℕ → List ℕ → Type 0 where
  ended : {at : ℕ} {way : List ℕ} → at ≡ 0 → way ≡ [] → Way steps at way
  passed : {at : ℕ} {way : List ℕ} (k : ℕ) (way' : List ℕ) (step : Step) → at ≡ suc k →
      k < length steps → step ≡ slice_index_or steps k step → step.before ≤ k →
      way ≡ step.edge ∷ way' → Way steps step.before way' → Way steps at way

-- the later steps begin with the earlier ones
pub record Extends (steps steps' : List Step) : Type 0 where
  pub longer : length steps ≤ length steps'
  pub same : (k : ℕ) (d : Step) → k < length steps → slice_index_or steps' k d
      ≡ slice_index_or steps k d

-- what is left at each of n vertices, with a list of all where something is
pub record IsSearch (n : ℕ) (left ends reached : List ℕ) : Type 0 where
  pub count : length left ≡ n
  pub count_ends : length ends ≡ n
  pub low : All (λ l. l ≤ most_budget) left
  pub within : All (λ v. v < n) reached
  pub known : (v : ℕ) → 0 < slice_index left v → Contains reached v

-- what is left of a budget where ways from the start have spent the weights of their steps
pub record AreReached (hops : List Hop) (start budget : ℕ) (left ends : List ℕ)
    (steps : List Step) : Type 0 where
  pub start_left : slice_index left start ≡ budget
  pub way : (v : ℕ) → 0 < slice_index left v → (d : ℕ) × (way : List ℕ)
      × Trail hops steps start (slice_index ends v) v d way × (d + slice_index left v ≡ budget)

-- a vertex in the queue by what is left there
abbrev pub queued_at : List ℕ → ℕ → Queued
queued_at left v = record { left = slice_index left v; vertex = v }

-- no step from the vertex leaves more at its end than is noted there
abbrev pub IsRelaxed : List Hop → List ℕ → ℕ → Type 0
IsRelaxed hops left u = (h : Hop) → Contains hops h → h.from ≡ u →
    slice_index left u ≤ slice_index left h.to + h.weight

-- what a search does to what is left and to the queue
pub record Advances (n : ℕ) (left : List ℕ) (queue : List Queued) (left' : List ℕ)
    (queue' : List Queued) : Type 0 where
  pub rises : (v : ℕ) → slice_index left v ≤ slice_index left' v
  pub keeps : (v : ℕ) → ((slice_index left' v ≡ slice_index left v)
      × (Contains queue (queued_at left v) → Contains queue' (queued_at left v)))
      ⊎ Contains queue' (queued_at left' v)
  pub queued : All (λ q. q.vertex < n) queue → All (λ q. q.vertex < n) queue'
  pub work : 2 * sum_by (λ x. x) left + length queue' ≤ 2 * sum_by (λ x. x) left' + length queue

-- each vertex is relaxed, or still in the queue
abbrev pub ArePending : List Hop → List ℕ → List Queued → Type 0
ArePending hops left queue = (v : ℕ) → Contains queue (queued_at left v) ⊎ IsRelaxed hops left v

-- each vertex is relaxed
abbrev pub AreRelaxed : List Hop → List ℕ → Type 0
AreRelaxed hops left = (v : ℕ) → IsRelaxed hops left v

-- a search from v with the budget 1, which ends once it comes to the last vertex, did so where
-- these steps were noted
pub record IsHomeward (star : Hops) (v at : ℕ) (steps : List Step) : Type 0 where
  pub left : List ℕ
  pub start_left : slice_index left v ≡ 1
  pub relaxed : (u : ℕ) → suc u ≡ star.vertices → slice_index left u ≡ 0 →
      AreRelaxed star.hops left
  pub way : (u : ℕ) → suc u ≡ star.vertices → 0 < slice_index left u →
      (d : ℕ) × (way : List ℕ) × Trail star.hops steps v at u d way × (d + slice_index left u ≡ 1)

-- such searches from the first n of these vertices
abbrev pub AreEnds : Hops → ℕ → (vertices ends : List ℕ) → List Step → Type 0
AreEnds star n vertices ends steps = (k : ℕ) → k < n →
    IsHomeward star (slice_index vertices k) (slice_index ends (slice_index vertices k)) steps
