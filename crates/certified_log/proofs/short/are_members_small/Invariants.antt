use Rattle.std.proofs.Common.{ℕ, List, All, take}
use Rattle.std.specs.Prelude.{ℤ}
use Rattle.report_model.specs.Logs.{IsLogNumber}
use Rattle.certified_log.proofs.short.are_members_small.Given as goal

abbrev pub invariant-loop-at : goal.invariant-loop-at
invariant-loop-at l = All (λ (s : List ℕ × ℤ). All IsLogNumber s.0) (take l.at l.cert.sets)
