use Rattle.std.proofs.Common.{◌≡◌, slice_get, sym, ap, subst, ◌∙◌}
use Rattle.std.specs.List.Sorted.{IsStrictlyIncreasing}
use Rattle.std.proofs.lemmas.Option.{same_Some}
use Rattle.graph_model.specs.Problems.{Part, Problem}
use Rattle.graph_model.specs.declared.PartEdge.{PartEdge}
use Rattle.graph_model.proofs.PartEdges.{numbers_of, problem_weight_at}
use Rattle.detector_graph.proofs.problem.Problem.weight.Goals as goal

pub returns-clause-by_number : goal.returns-clause-by_number
returns-clause-by_number c edge h =
    let edges = ap (λ (p : Part). p.edges) c.deref-2.ensures
    ∙ ap (λ (p : Problem). p.part.edges) c.self.view_is in
    let read : c.edge.result ≡ edge = same_Some c.edge.result edge
    (sym c.edge.ensures ∙ ap (λ es. slice_get es c.args.at) edges ∙ h) in
    let up = subst (λ (p : Part). IsStrictlyIncreasing (numbers_of p.edges)) (c.deref.ensures
    ∙ ap (λ (p : Problem). p.part) c.self.view_is) c.is_part.ensures.ascending in
    ap (λ (x : PartEdge). x.weight) read
    ∙ sym (problem_weight_at c.args.self.now up c.args.at edge h)
