use Rattle.std.proofs.Common.{◌≡◌, length, not}
use Rattle.std.specs.List.{list_any}
use Rattle.surface_model.specs.Text.{is_skipped}
use Rattle.schedule_reader.specs.Pieces.{lines_of}
use Rattle.schedule_reader.proofs.line.has_other_lines.Given as goal

abbrev pub invariant-loop-rest : goal.invariant-loop-rest
invariant-loop-rest l = list_any (λ line. not (is_skipped line)) (lines_of l.rest)
    ≡ list_any (λ line. not (is_skipped line)) (lines_of l.text)

abbrev pub decreases-loop-rest : goal.decreases-loop-rest
decreases-loop-rest l = length l.rest
