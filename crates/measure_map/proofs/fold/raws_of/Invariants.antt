use Rattle.std.proofs.Common.{◌≡◌, ◌==◌, false, filter, map, take, slice_index_or}
use Rattle.graph_model.specs.Parity.{parity}
use Rattle.measure_map.specs.Placed.{PlacedObservable}
use Rattle.measure_map.proofs.fold.raws_of.Given as goal

abbrev pub invariant-loop-observable : goal.invariant-loop-observable
invariant-loop-observable l =
    l.values.items
    ≡ map (λ (o : PlacedObservable). parity (λ k. slice_index_or l.row k false) o.places)
    (filter (λ (o : PlacedObservable). o.slot == l.slot) (take l.observable-index l.observables))
