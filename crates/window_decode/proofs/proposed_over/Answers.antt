use Rattle.std.proofs.Common.{arith}
use Rattle.window_decode.proofs.Quiet.{none_of_table}
use Rattle.window_decode.proofs.proposed_over.Goals as goal

pub returns-then-count-eq0 : goal.returns-then-count-eq0
returns-then-count-eq0 c = none_of_table c.args.problem.now c.args.table.now.members c.new.result
    c.requires.members_are (omega (arith, c.count.ensures, c.if-count-eq0.true)) c.new.ensures
