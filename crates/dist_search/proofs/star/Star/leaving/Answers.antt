use Rattle.std.proofs.Common.{ap, ◌∙◌}
use Rattle.detector_graph.specs.Rows.{group_of}
use Rattle.dist_search.specs.Hops.{Hops, measured, starts_of}
use Rattle.dist_search.proofs.Stars.{starts_are}
use Rattle.dist_search.proofs.star.Star.leaving.Goals as goal

pub returns : goal.returns
returns c =
    let p = c.self.inside.problem.now in
    c.steps_from.ensures
    ∙ ap (λ vs. group_of vs c.args.vertex)
    (starts_are p (measured c.self.inside.sense c.self.inside.weights.now) p.part.edges)
    ∙ ap (λ (s : Hops). group_of (starts_of s.hops) c.args.vertex) c.self.view_is
