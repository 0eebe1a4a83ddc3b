use Rattle.std.proofs.Common.{◌≡◌, max, fold, map, take, slice_index}
use Rattle.release_gate.specs.Operations.{raw_slots_of}
use Rattle.window_model.specs.Windows.{greatest}
use Rattle.release_gate.proofs.rounds.round_of.Given as goal

-- the greatest so far
abbrev pub invariant-loop-window : goal.invariant-loop-window
invariant-loop-window l = l.round ≡ fold max (greatest (raw_slots_of l.op))
    (take l.window-index (map (slice_index l.slots) l.windows))
