use Rattle.std.proofs.Common.{sym, arith}
use Rattle.std.proofs.lemmas.Grind.{common_steps}
use Rattle.schedule_reader.proofs.Pieces.{upto_taken, upto_all, past_is}
use Rattle.schedule_reader.proofs.piece.cut.Goals as goal

pub returns-then-end-bytes-clause-front : goal.returns-then-end-bytes-clause-front
returns-then-end-bytes-clause-front c = let e = upto_taken c.args.byte c.args.bytes.now in
    grind (arith, common_steps)

pub returns-then-end-bytes-clause-back : goal.returns-then-end-bytes-clause-back
returns-then-end-bytes-clause-back c = past_is c.args.byte c.args.bytes.now c.piece_end-end.result
    c.piece_end-end.ensures c.if-end-bytes.true

pub returns-else-end-bytes-clause-front : goal.returns-else-end-bytes-clause-front
returns-else-end-bytes-clause-front c = sym (upto_all c.args.byte c.args.bytes.now (omega arith))
