use Rattle.std.proofs.Common.{◌≡◌, ◌+◌, drop}
use Rattle.log_reader.proofs.Bytes.{place}
use Rattle.log_reader.proofs.word.place_of.Given as goal

abbrev pub invariant-loop-at : goal.invariant-loop-at
invariant-loop-at l = place l.value l.bytes ≡ l.at + place l.value (drop l.at l.bytes)
