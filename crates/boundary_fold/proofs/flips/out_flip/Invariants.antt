use Rattle.std.proofs.Common.{◌≡◌, take}
use Rattle.graph_model.specs.Parity.{parity}
use Rattle.graph_model.specs.Graph.{is_in}
use Rattle.boundary_fold.proofs.flips.out_flip.Given as goal

-- the parity of the members so far
abbrev pub invariant-loop-edge : goal.invariant-loop-edge
invariant-loop-edge l = l.flip ≡ parity (is_in l.kept) (take l.edge-index l.edge-items)
