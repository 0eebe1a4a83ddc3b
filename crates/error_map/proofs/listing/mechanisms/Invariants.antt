use Rattle.std.proofs.Common.{◌≡◌, ◌<◌, ◌-◌, flat_map}
use Rattle.std.specs.List.{range_with_len}
use Rattle.surface_model.specs.Errors.{mechanisms_at}
use Rattle.error_map.specs.Active.{active_at}
use Rattle.error_map.specs.Seen.{mechanisms_of}
use Rattle.error_map.proofs.listing.mechanisms.Given as goal

abbrev pub invariant-loop-slot : goal.invariant-loop-slot
invariant-loop-slot l = record {
  list : mechanisms_of l.list.items ≡ flat_map (mechanisms_at l.program) (range_with_len 0 l.slot);
  qubits : 0 < l.slot → l.qubits.items ≡ active_at l.program (l.slot - 1);
}
