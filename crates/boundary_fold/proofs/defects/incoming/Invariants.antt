use Rattle.std.proofs.Common.{◌≡◌, ◌<◌, ℕ, false, length, take, get_or}
use Rattle.graph_model.specs.Parity.{◌⊕◌}
use Rattle.boundary_fold.specs.Folds.{link_flip}
use Rattle.boundary_fold.proofs.defects.incoming.Given as goal

-- the values, turned by the links so far
abbrev pub invariant-loop-at : goal.invariant-loop-at
invariant-loop-at l = record {
  len : length l.into ≡ length l.detectors;
  so_far : (k : ℕ) → k < length l.detectors →
      get_or l.into k false ≡ get_or l.values (get_or l.detectors k 0) false ⊕ link_flip l.plan
      l.window (take l.at l.dependencies) (take l.at l.links) (get_or l.detectors k 0);
}
