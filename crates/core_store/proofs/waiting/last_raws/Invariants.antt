use Rattle.std.proofs.Common.{◌≡◌, map}
use Rattle.std.specs.List.{range_with_len}
use Rattle.window_setting.specs.Slots.{last_raw}
use Rattle.core_store.proofs.waiting.last_raws.Given as goal

-- the slots so far
abbrev pub invariant-loop-op : goal.invariant-loop-op
invariant-loop-op l = l.slots.items ≡ map (last_raw l.setting) (range_with_len 0 l.op)
