use Rattle.std.proofs.Common.{◌≡◌, take}
use Rattle.window_table.specs.Counts.{taken_by}
use Rattle.window_table.proofs.share.taken_together.Given as goal

-- those so far
abbrev pub invariant-loop-share : goal.invariant-loop-share
invariant-loop-share l = l.sum ≡ taken_by (take l.share-index l.shares)
