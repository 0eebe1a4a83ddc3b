use Rattle.std.proofs.Common.{◌≡◌, max, map, fold, take, slice_index}
use Rattle.window_model.specs.Windows.{window_at}
use Rattle.release_gate.proofs.ready.latest.Given as goal

-- the greatest so far
abbrev pub invariant-loop-dependency : goal.invariant-loop-dependency
invariant-loop-dependency l = l.slot ≡ fold max (window_at l.plan.plan l.window).last
    (take l.dependency-index (map (slice_index l.slots) l.dependency-items))
