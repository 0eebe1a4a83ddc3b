use Rattle.std.proofs.Common.{map, ℕ}
use Rattle.std.specs.List.{range_with_len}
use Rattle.error_map.proofs.Keyed.{row_of_keys}
use Rattle.error_map.proofs.keys.push_region.Goals as goal

pub loop-down-preserved : goal.loop-down-preserved
loop-down-preserved c =
    row_of_keys c.args.number (λ (i : ℕ). map (λ (j : ℕ). record { row = i; column = j })
    (range_with_len c.region.inside.col c.region.inside.width)) c.region.inside.row
    c.args.keys.now.items c.loop-down.down
    c.loop-down.keys.items c.push_row.new.keys.items c.loop-down.invariant c.in_ok-push_row.ensures
