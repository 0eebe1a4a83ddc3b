use Rattle.std.proofs.Common.{◌≡◌, take}
use Rattle.graph_model.specs.Parity.{parity}
use Rattle.measure_map.specs.Placed.{slot_value}
use Rattle.measure_map.proofs.fold.parity_of.Given as goal

abbrev pub invariant-loop-place : goal.invariant-loop-place
invariant-loop-place l =
    l.odd ≡ parity (slot_value l.slot l.before l.row) (take l.place-index l.places)
