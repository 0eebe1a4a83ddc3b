use Rattle.std.proofs.Common.{◌≡◌, replicate}
use Rattle.window_table.specs.Counts.{no_share}
use Rattle.window_table.proofs.share.shares.Given as goal

abbrev pub invariant-loop-place : goal.invariant-loop-place
invariant-loop-place l = l.all.items ≡ replicate l._place no_share
