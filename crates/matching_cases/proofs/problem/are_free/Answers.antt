use Rattle.std.proofs.Common.{ℕ, ◌≡◌, ◌∷◌, [], Any, arith, sym, subst, ⊎_elim}
use Rattle.std.proofs.lemmas.Bool.{cases_eq}
use Rattle.graph_model.specs.declared.PartEdge.{PartEdge}
use Rattle.graph_model.specs.Problems.{places_of}
use Rattle.matching_cases.proofs.problem.are_free.Goals as goal

pub loop-place-preserved : goal.loop-place-preserved
loop-place-preserved c place l =
    ⊎_elim (λ e. subst (λ (v : ℕ). Any (λ (edge : PartEdge). places_of edge
    ≡ v ∷ []) c.args.edges.now) (sym e) (c.is_free.ensures c.if-not-is_free.false))
    (λ ne. c.loop-place.invariant place (omega (arith, l, ne))) (cases_eq place c.loop-place.place)
