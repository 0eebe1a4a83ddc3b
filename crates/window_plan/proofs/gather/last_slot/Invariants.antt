use Rattle.std.proofs.Common.{◌≡◌, take, map, fold, max}
use Rattle.window_model.specs.Windows.{slot_of}
use Rattle.window_plan.proofs.gather.last_slot.Given as goal

abbrev pub invariant-loop-detector : goal.invariant-loop-detector
invariant-loop-detector l =
    l.last ≡ fold max 0 (map (slot_of l.tags) (take l.detector-index l.detectors))
