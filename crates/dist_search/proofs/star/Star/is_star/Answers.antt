use Rattle.std.proofs.Common.{All, subst}
use Rattle.dist_search.specs.Hops.{Hops, IsHop, measured}
use Rattle.dist_search.proofs.Stars.{star_fits}
use Rattle.dist_search.proofs.star.Star.is_star.Goals as goal

pub returns : goal.returns
returns c = record {
  fits = subst (λ (s : Hops). All (IsHop s.vertices) s.hops) c.self.view_is
      (star_fits c.self.inside.problem.now
      (measured c.self.inside.sense c.self.inside.weights.now) c.self.invariant.star);
}
