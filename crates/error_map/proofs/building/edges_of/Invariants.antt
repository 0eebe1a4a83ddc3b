use Rattle.std.proofs.Common.{◌≡◌, true, filter, take}
use Rattle.std.specs.List.{list_any, filter_map}
use Rattle.surface_model.specs.Errors.{checked, edge_of, mechanisms, odd_places, watched}
use Rattle.error_map.specs.Seen.{mechanisms_of}
use Rattle.error_map.proofs.building.edges_of.Given as goal

abbrev pub invariant-loop-number : goal.invariant-loop-number
invariant-loop-number l = record {
  edges : l.edges.items ≡ filter_map (edge_of l.lookup (checked l.lookup) (watched l.lookup))
      (take l.number (mechanisms l.lookup));
  sources : mechanisms_of l.sources.items
      ≡ filter (λ x. list_any (λ n. true) (odd_places l.lookup x (checked l.lookup)))
      (take l.number (mechanisms l.lookup));
}
