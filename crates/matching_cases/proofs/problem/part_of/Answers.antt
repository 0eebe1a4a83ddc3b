use Rattle.std.proofs.Common.{ℕ, ◌≡◌, ◌<◌, ◌≤◌, ◌∷◌, [], List, All, Any, length, sym, ◌∙◌, subst, arith}
use Rattle.std.specs.List.Sorted.{IsStrictlyIncreasing}
use Rattle.graph_model.specs.declared.PartEdge.{PartEdge}
use Rattle.graph_model.specs.Limits.{most_edges, most_places}
use Rattle.graph_model.specs.Problems.{IsPart, IsPartEdge, places_of, free}
use Rattle.graph_model.proofs.PartEdges.{numbers_of}
use Rattle.matching_cases.proofs.problem.part_of.Goals as goal

made : (places : ℕ) (detectors : List ℕ) (edges : List PartEdge) → length detectors ≡ places →
    places ≤ most_places → length edges ≤ most_edges → All (IsPartEdge places) edges →
    IsStrictlyIncreasing (numbers_of edges) →
    ((place : ℕ) → place < places → Any (λ (edge : PartEdge). places_of edge ≡ place ∷ []) edges) →
    IsPart (record { window = 0; detectors = detectors; edges = edges })
made places detectors edges count few few' fit rising open_ = record {
  few_detectors = omega (arith, count, few);
  few_edges = few';
  ascending = rising;
  fits = subst (λ (n : ℕ). All (IsPartEdge n) edges) (sym count) fit;
  is_open = λ place l. free (open_ place (omega (arith, l, count)));
}

pub new-requires : goal.new-requires
new-requires c =
    let detectors = c.in_ok-detectors.detectors in
    let edges = c.in_ok-edges.edges.items in
    let r = c.requires in
    subst (λ (es : List PartEdge). IsPart (record {
      window = 0;
      detectors = detectors.items;
      edges = es;
    })) (sym c.in_ok-edges.ensures.items)
    (made c.args.places detectors.items c.args.edges.now
    (sym detectors.ok.0 ∙ c.in_ok-detectors.ensures.len) r.few_places r.few_edges r.fit r.rising
    r.free)
