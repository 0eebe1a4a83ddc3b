use Rattle.std.proofs.Common.{◌≡◌, ◌++◌, take}
use Rattle.surface_model.specs.Errors.{of_class}
use Rattle.error_map.specs.Seen.{class_of, mechanisms_of}
use Rattle.error_map.proofs.listing.push_space.Given as goal

abbrev pub invariant-loop-qubit : goal.invariant-loop-qubit
invariant-loop-qubit l =
    mechanisms_of l.list.items ≡ mechanisms_of l.initial.list.items
    ++ of_class l.slot (class_of l.class) (take l.qubit-index l.qubits)
