use Rattle.std.proofs.Common.{◌<◌, ℕ, List}
use Rattle.graph_model.specs.declared.Tag.{Tag}
use Rattle.window_model.specs.Grounded.{ReachesOut}
use Rattle.boundary_fold.proofs.tests.all_leave.Given as goal

abbrev pub invariant-loop-detector : goal.invariant-loop-detector
invariant-loop-detector l = (tags : List Tag) (v : ℕ) → v < l.detector → ReachesOut l.graph tags v
