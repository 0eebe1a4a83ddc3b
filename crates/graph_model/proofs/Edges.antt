-- Laws of a graph's edges by their numbers.
use Rattle.std.proofs.Common.{◌≡◌, ℕ, ◌*◌, ◌<◌, ◌≤◌, ◌≢◌, inl, inr, ⊎_elim, true, false, List, [], sym, ap, ◌∙◌, subst, arith, length, get_or, All, Option, Some, None, IfSome, slice_get, option_to_list}
use Rattle.std.proofs.lemmas.Bool.{false≢true}
use Rattle.std.proofs.lemmas.List.Sums.{sum_by-le}
use Rattle.std.proofs.lemmas.Option.{slice_get_cases, slice_get_within, get_or_from_slice_get}
use Rattle.std.specs.Option.{option_map_or}
use Rattle.graph_model.specs.Graph.{GraphEdge, DetectorGraph, IsEdge, IsGraph, is_in, ends_of, ends_at, flips, weight_at, weight_of}
use Rattle.graph_model.proofs.Members.{is_in_cases}

-- ---- the edge of a number
pub ends_at_get : (g : DetectorGraph) (v e : ℕ) (edge : GraphEdge) → slice_get g.edges e
    ≡ Some edge → ends_at g v e ≡ is_in (ends_of edge) v
ends_at_get g v e edge h = ap (λ o. option_map_or (λ x. is_in (ends_of x) v) o false) h

pub flips_get : (g : DetectorGraph) (l e : ℕ) (edge : GraphEdge) → slice_get g.edges e ≡ Some edge →
    flips g l e ≡ is_in edge.mask l
flips_get g l e edge h = ap (λ o. option_map_or (λ x. is_in x.mask l) o false) h

pub weight_at_get : (g : DetectorGraph) (e : ℕ) (edge : GraphEdge) → slice_get g.edges e
    ≡ Some edge → weight_at g e ≡ edge.weight
weight_at_get g e edge h = ap (λ o. option_map_or (λ (x : GraphEdge). x.weight) o 0) h

-- ---- edges that fit
pub edge_fits : (g : DetectorGraph) → All (IsEdge g.vertices) g.edges → (e : ℕ) (edge : GraphEdge) →
    slice_get g.edges e ≡ Some edge → IsEdge g.vertices edge
edge_fits g all e edge h = subst (IsEdge g.vertices) (get_or_from_slice_get g.edges e edge edge h)
    (all e edge (slice_get_within g.edges e edge h))

pub second_below : (n v : ℕ) (second : Option ℕ) (first : ℕ) → IfSome second (λ other. (other < n)
    × (other ≢ first)) → is_in (option_to_list second) v ≡ true → v < n
second_below n v None first h m = absurd (false≢true m)
second_below n v (Some w) first h m =
    ⊎_elim (λ e. subst (λ x. x < n) e h.0) (λ r. absurd (false≢true r)) (is_in_cases w v [] m)

pub end_below : (n v : ℕ) (edge : GraphEdge) → IsEdge n edge → is_in (ends_of edge) v ≡ true → v < n
end_below n v edge h m =
    ⊎_elim (λ e. subst (λ x. x < n) e h.first) (λ r. second_below n v edge.second edge.first
    h.second r) (is_in_cases edge.first v (option_to_list edge.second) m)

pub graph_fits : (g : DetectorGraph) → All (IsEdge g.vertices) g.edges → IsGraph g
graph_fits g all v e h = elim ((slice_get_cases g.edges e).1) [
  | inl found ↦ end_below g.vertices v found.0 (edge_fits g all e found.0 found.2)
      (sym (ends_at_get g v e found.0 found.2) ∙ h)
  | inr past ↦ absurd
      (false≢true (sym (ap (λ o. option_map_or (λ x. is_in (ends_of x) v) o false) past.1) ∙ h))
]

-- ---- weights
pub weight_at_le : (g : DetectorGraph) → All (IsEdge g.vertices) g.edges → (e : ℕ) →
    weight_at g e ≤ 1000
weight_at_le g all e = elim ((slice_get_cases g.edges e).1) [
  | inl found ↦ omega (
    arith,
    weight_at_get g e found.0 found.2,
    (edge_fits g all e found.0 found.2).weight,
  )
  | inr past ↦ omega (arith, ap (λ o. option_map_or (λ (x : GraphEdge). x.weight) o 0) past.1)
]

pub weight_of_le : (g : DetectorGraph) → All (IsEdge g.vertices) g.edges → (set : List ℕ) →
    weight_of g set ≤ length set * 1000
weight_of_le g all set =
    sum_by-le (weight_at g) 1000 set (λ k d l. weight_at_le g all (get_or set k d))
