use Rattle.std.proofs.Common.{ℕ, List, All, take}
use Rattle.std.specs.Prelude.{ℤ}
use Rattle.certified_lines.specs.Certified.{IsNumber}
use Rattle.certified_log.proofs.short.are_sets_short.Given as goal

abbrev pub invariant-loop-at : goal.invariant-loop-at
invariant-loop-at l = All (λ (s : List ℕ × ℤ). IsNumber s.1) (take l.at l.cert.sets)
