use Rattle.std.proofs.Common.{◌∙◌, ℕ, false, get_or, sym, ap, subst}
use Rattle.graph_model.specs.Parity.{◌⊕◌}
use Rattle.graph_model.specs.Problems.{IsPartEdge}
use Rattle.graph_model.proofs.Parities.{xor-false}
use Rattle.dual_certificate.proofs.Edges.{fits_found, meets_one, meets_none}
use Rattle.dual_certificate.proofs.correction.turn_edge.Goals as goal

pub turn_ends-requires : goal.turn_ends-requires
turn_ends-requires c =
    subst (λ (n : ℕ). IsPartEdge n c.in-Some.edge) (sym c.requires)
    (fits_found c.args.problem.now.part c.is_problem.ensures.part 0 c.args.number c.in-Some.edge
    (sym c.edge_of.ensures ∙ c.in-Some.is))

pub returns-in-Some-clause-value : goal.returns-in-Some-clause-value
returns-in-Some-clause-value c v =
    c.turn_ends.ensures.value v
    ∙ ap (λ b. get_or c.args.bits.now v false ⊕ b)
    (sym (meets_one c.args.problem.now.part c.is_problem.ensures.part v c.args.number c.in-Some.edge
    (sym c.edge_of.ensures ∙ c.in-Some.is)))

pub returns-in_default-clause-value : goal.returns-in_default-clause-value
returns-in_default-clause-value c v =
    sym (xor-false (get_or c.args.bits.now v false))
    ∙ ap (λ b. get_or c.args.bits.now v false ⊕ b)
    (sym (meets_none c.args.problem.now.part c.is_problem.ensures.part v c.args.number
    c.edge_of.result c.edge_of.ensures c.in_default.not-Some))
