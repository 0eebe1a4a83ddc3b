use Rattle.std.proofs.Common.{arith}
use Rattle.error_map.proofs.Keyed.{number_some, number_none}
use Rattle.error_map.proofs.keys.number_at.Goals.{else-key-row-via-then-key-row+else-key-col, else-key-row-via-else-key-row}
use Rattle.error_map.proofs.keys.number_at.Goals as goal

pub returns-then-key-col : goal.returns-then-key-col
returns-then-key-col c =
    number_some c.args.keys.now c.args.at (record { row = c.args.row; column = c.args.col })
    (omega arith) c.if-key-row.true c.if-key-col.true

pub returns-else-key-row : goal.returns-else-key-row
returns-else-key-row c =
    number_none c.args.keys.now c.args.at (record { row = c.args.row; column = c.args.col })
    (omega arith)
    (λ r d. elim c.else-key-row.branch [
      | else-key-row-via-then-key-row+else-key-col
          w ↦ w.if-key-col.false d
      | else-key-row-via-else-key-row w ↦ w.if-key-row.false r
    ])
