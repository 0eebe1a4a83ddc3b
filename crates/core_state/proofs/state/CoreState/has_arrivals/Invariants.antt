use Rattle.std.proofs.Common.{◌≡◌, map, take}
use Rattle.std.specs.Arc.{arc_value}
use Rattle.std.specs.List.{range_with_len}
use Rattle.core_state.specs.Arrivals.{kept_at}
use Rattle.core_state.proofs.state.CoreState.has_arrivals.Given as goal

-- the slots so far
abbrev pub invariant-loop-slot : goal.invariant-loop-slot
invariant-loop-slot l =
    map (kept_at l.self) (range_with_len 0 l.slot) ≡ take l.slot (map arc_value l.given)
