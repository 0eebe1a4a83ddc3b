use Rattle.std.proofs.Common.{◌≡◌, ◌++◌, take}
use Rattle.slot_bits.specs.Watched.{of_merges, of_reads}
use Rattle.slot_bits.proofs.observe.push_line.Given as goal

abbrev pub invariant-loop-merge : goal.invariant-loop-merge
invariant-loop-merge l =
    l.observables.items ≡ l.initial.observables.items ++ of_merges l.places l.number
    (take l.merge-index l.merge-items)

abbrev pub invariant-loop-read : goal.invariant-loop-read
invariant-loop-read l =
    l.observables.items ≡ l.initial.observables.items ++ of_reads l.places l.number
    (take l.read-index l.read-items)
