use Rattle.std.proofs.Common.{◌≡◌, map, take, slice_index}
use Rattle.run_header.proofs.timing.timed_labels.Given as goal

-- the observables so far
abbrev pub invariant-loop-label : goal.invariant-loop-label
invariant-loop-label l =
    l.timed.items ≡ map (λ x. (x, slice_index l.raws x)) (take l.label-index l.labels)
