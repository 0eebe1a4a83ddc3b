use Rattle.std.proofs.Common.{◌≡◌, map, take}
use Rattle.window_plan.specs.Kinds.{order_of}
use Rattle.window_plan.specs.Ranks.{tag_key}
use Rattle.window_plan.proofs.cells.keys_of.Given as goal

abbrev pub invariant-loop-tag : goal.invariant-loop-tag
invariant-loop-tag l =
    l.keys.items ≡ map (tag_key (order_of l.kind) l.commit) (take l.tag-index l.tags)
