use Rattle.std.proofs.Common.{string_bytes}
use Rattle.workload_maker.proofs.Written.{lines_more, no_lines}
use Rattle.workload_maker.proofs.lines.write_lines.Goals as goal

pub loop-number-init : goal.loop-number-init
loop-number-init c =
    no_lines c.args.distance c.args.slots c.args.kind (string_bytes c.args.text.now)

pub loop-number-preserved : goal.loop-number-preserved
loop-number-preserved c =
    lines_more c.args.distance c.args.slots c.args.kind c.loop-number.number
    (string_bytes c.args.text.now) (string_bytes c.loop-number.text)
    (string_bytes c.write_line.new.text) c.loop-number.invariant c.in_ok-write_line.ensures
