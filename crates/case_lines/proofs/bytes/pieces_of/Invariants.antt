use Rattle.std.proofs.Common.{length}
use Rattle.case_lines.proofs.bytes.pieces_of.Given as goal

abbrev pub decreases-loop-rest : goal.decreases-loop-rest
decreases-loop-rest g l = length l.rest
