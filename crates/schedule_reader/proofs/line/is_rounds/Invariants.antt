use Rattle.std.proofs.Common.{◌≡◌, length}
use Rattle.surface_model.specs.Text.{is_rounds}
use Rattle.schedule_reader.proofs.line.is_rounds.Given as goal

abbrev pub invariant-loop-rest : goal.invariant-loop-rest
invariant-loop-rest l = is_rounds l.rest ≡ is_rounds l.line

abbrev pub decreases-loop-rest : goal.decreases-loop-rest
decreases-loop-rest l = length l.rest
