use Rattle.std.proofs.Common.{ℕ, ◌<◌, List, get_or}
use Rattle.std.specs.Prelude.{ℤ}
use Rattle.matching_model.specs.Certificates.{IsOddSet}
use Rattle.dual_certificate.proofs.sets.are_odd_sets.Given as goal

abbrev pub invariant-loop-at : goal.invariant-loop-at
invariant-loop-at l = (k : ℕ) (d : List ℕ × ℤ) → k < l.at →
    IsOddSet l.count (get_or l.cert.sets k d)
