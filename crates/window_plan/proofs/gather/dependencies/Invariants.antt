use Rattle.std.proofs.Common.{◌≡◌, ◌&&◌, take, []}
use Rattle.std.specs.Prelude.{nat_lt}
use Rattle.std.specs.List.{list_any}
use Rattle.window_plan.specs.Gathers.{has_owner}
use Rattle.window_plan.specs.Searches.{Grows}
use Rattle.window_plan.proofs.gather.dependencies.Given as goal

abbrev pub invariant-loop-vertex : goal.invariant-loop-vertex
invariant-loop-vertex l = record {
  bound : l.lower.bound ≡ l.fn.lower.bound;
  grows : Grows (λ x. list_any (λ v. has_owner l.view.graph l.view.owners v x)
      (take l.vertex-index l.detectors) && nat_lt x l.view.window) [] l.lower.members;
}
