use Rattle.std.proofs.Common.{◌≡◌, ◌<◌, ◌≤◌, get_or, length, take}
use Rattle.boundary_fold.specs.Folds.{edges_with}
use Rattle.boundary_fold.specs.Located.{AreBelow}
use Rattle.boundary_fold.proofs.division.part_edges.Given as goal

-- the edges so far, and the owned ones that are below the next
abbrev pub invariant-loop-number : goal.invariant-loop-number
invariant-loop-number l = record {
  edges : l.found.items
      ≡ edges_with l.graph l.located.detectors l.owned (take l.number-index l.edges);
  within : l.next ≤ length l.owned;
  below : l.number-index < length l.edges →
      AreBelow l.owned l.next (get_or l.edges l.number-index 0);
}
