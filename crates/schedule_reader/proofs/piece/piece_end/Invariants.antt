use Rattle.std.proofs.Common.{◌≡◌, ◌+◌, length, drop}
use Rattle.schedule_reader.specs.Pieces.{upto}
use Rattle.schedule_reader.proofs.piece.piece_end.Given as goal

abbrev pub invariant-loop-at : goal.invariant-loop-at
invariant-loop-at l = length (upto l.byte l.bytes) ≡ l.at + length (upto l.byte (drop l.at l.bytes))
