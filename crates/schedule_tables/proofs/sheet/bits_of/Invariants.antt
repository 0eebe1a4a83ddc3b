use Rattle.std.proofs.Common.{◌≡◌, length}
use Rattle.schedule_tables.proofs.sheet.bits_of.Given as goal

abbrev pub invariant-loop-at : goal.invariant-loop-at
invariant-loop-at l = length l.bits ≡ length l.digits
