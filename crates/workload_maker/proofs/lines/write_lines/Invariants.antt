use Rattle.std.proofs.Common.{◌≡◌, ◌++◌, string_bytes}
use Rattle.workload_maker.specs.Headers.{lines_text}
use Rattle.workload_maker.proofs.lines.write_lines.Given as goal

abbrev pub invariant-loop-number : goal.invariant-loop-number
invariant-loop-number l =
    string_bytes l.text
    ≡ string_bytes l.fn.text ++ lines_text l.distance l.slots l.kind l.number
