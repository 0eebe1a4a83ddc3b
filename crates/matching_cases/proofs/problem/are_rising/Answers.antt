use Rattle.std.proofs.Common.{ℕ, ◌≡◌, ◌<◌, ◌+◌, ◌-◌, List, length, get_or, arith, ap, ⊎_elim}
use Rattle.std.proofs.lemmas.Bool.{cases_eq}
use Rattle.std.proofs.lemmas.List.{get_or-map}
use Rattle.graph_model.specs.declared.PartEdge.{PartEdge}
use Rattle.graph_model.proofs.PartEdges.{numbers_of}
use Rattle.matching_cases.proofs.problem.are_rising.Goals as goal

number : (edges : List PartEdge) (i : ℕ) (d : PartEdge) → i < length edges →
    get_or (numbers_of edges) i 0 ≡ (get_or edges i d).edge
number edges i d l = get_or-map (λ (x : PartEdge). x.edge) edges i d 0 l

next : (edges : List PartEdge) (at : ℕ) (d : PartEdge) → 0 < at → at < length edges →
    (get_or edges (at - 1) d).edge < (get_or edges at d).edge →
    ((k : ℕ) → k + 1 < at → get_or (numbers_of edges) k 0 < get_or (numbers_of edges) (k + 1) 0) →
    (k : ℕ) → k + 1 < at + 1 →
    get_or (numbers_of edges) k 0 < get_or (numbers_of edges) (k + 1) 0
next edges at d some low less before k l =
    ⊎_elim here (λ ne. before k (omega (arith, l, ne))) (cases_eq (k + 1) at)
  where
    here : k + 1 ≡ at → get_or (numbers_of edges) k 0 < get_or (numbers_of edges) (k + 1) 0
    here e =
        let one = number edges (at - 1) d (omega (arith, low)) in
        let two = number edges at d low in
        let place : at - 1 ≡ k = omega (arith, e) in
        let a = ap (λ i. get_or (numbers_of edges) i 0) place in
        let b = ap (λ i. get_or (numbers_of edges) i 0) e in
        omega (arith, one, two, less, a, b)

pub loop-at-preserved : goal.loop-at-preserved
loop-at-preserved c = next c.args.edges.now c.loop-at.at _ c.loop-at.auto.at c.loop-at-test.true
    c.if-edges-at.false c.loop-at.invariant
