use Rattle.std.proofs.Common.{◌≡◌, ◌+◌, ◌≤◌, length}
use Rattle.schedule_reader.specs.Known.{no_tables}
use Rattle.schedule_reader.specs.Pieces.{lines_of}
use Rattle.schedule_reader.specs.Walks.{walk}
use Rattle.schedule_reader.proofs.reader.read.Given as goal

abbrev pub invariant-loop-rest : goal.invariant-loop-rest
invariant-loop-rest l = (walk l.whole l.tables (l.number + 1) (lines_of l.rest)
    ≡ walk l.whole no_tables 1 (lines_of l.text)) × (l.number + length l.rest ≤ length l.text)

abbrev pub decreases-loop-rest : goal.decreases-loop-rest
decreases-loop-rest l = length l.rest
