use Rattle.std.proofs.Common.{◌≡◌, false, take, slice_index_or}
use Rattle.graph_model.specs.Parity.{parity}
use Rattle.measure_map.proofs.fold.row_parity.Given as goal

abbrev pub invariant-loop-place : goal.invariant-loop-place
invariant-loop-place l =
    l.odd ≡ parity (λ k. slice_index_or l.row k false) (take l.place-index l.places)
