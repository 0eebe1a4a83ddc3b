use Rattle.std.proofs.Common.{◌≡◌, take, filter}
use Rattle.window_plan.specs.Gathers.{has_owner}
use Rattle.window_plan.proofs.gather.places_of.Given as goal

abbrev pub invariant-loop-vertex : goal.invariant-loop-vertex
invariant-loop-vertex l =
    l.places.items ≡ filter (λ v. has_owner l.view.graph l.view.owners v l.dependency)
    (take l.vertex-index l.detectors)
