use Rattle.std.proofs.Common.{◌<◌, ◌++◌, ◌∷◌, [], None, false, length, get_or, take, sym, ap, ◌∙◌, arith}
use Rattle.graph_model.specs.declared.PartEdge.{PartEdge}
use Rattle.detector_graph.specs.Steps.{step_starts}
use Rattle.detector_graph.proofs.Homes.{starts_more}
use Rattle.detector_graph.proofs.steps.step_starts.Goals as goal

blank : PartEdge
blank = record { edge = 0; first = 0; second = None; weight = 0; owned = false }

pub loop-edge-preserved : goal.loop-edge-preserved
unfolding blank
loop-edge-preserved c =
    let es = c.args.edges.now in
    let n = c.args.places in
    let i = c.loop-edge.edge-index in
    let low : i < length es = omega arith in
    let edge = get_or es i blank in
    c.in_ok-push-2.ensures.items
    ∙ ap (λ vs. vs ++ c.far_end.result ∷ []) (c.in_ok-push.ensures.items
    ∙ ap (λ vs. vs ++ edge.first ∷ []) c.loop-edge.invariant)
    ∙ ap (λ v. (step_starts n (take i es) ++ edge.first ∷ []) ++ v ∷ []) c.far_end.ensures
    ∙ sym (starts_more n es i blank low)
