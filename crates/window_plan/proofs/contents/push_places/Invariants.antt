use Rattle.std.proofs.Common.{◌≡◌, ◌++◌, map, take}
use Rattle.window_plan.specs.Gathers.{places_by}
use Rattle.window_plan.proofs.contents.push_places.Given as goal

abbrev pub invariant-loop-dep : goal.invariant-loop-dep
invariant-loop-dep l =
    l.places ≡ l.fn.places
    ++ map (λ x. places_by l.view.graph l.view.owners x l.border) (take l.dep-index l.deps)
