use Rattle.std.proofs.Common.{◌≡◌, ◌≤◌, ◌-◌, flat_map}
use Rattle.std.specs.List.{range_with_len}
use Rattle.slot_bits.specs.Watched.{observed_at}
use Rattle.slot_bits.proofs.observe.observables.Given as goal

abbrev pub invariant-loop-line : goal.invariant-loop-line
invariant-loop-line l =
    (l.line ≤ l.rounds) × (l.all.items ≡ flat_map (observed_at l.places) (range_with_len 0 l.line))

abbrev pub decreases-loop-line : goal.decreases-loop-line
decreases-loop-line l = l.rounds - l.line
