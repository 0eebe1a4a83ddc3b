use Rattle.std.proofs.Common.{arith}
use Rattle.std.proofs.lemmas.Int.{ints}
use Rattle.dual_certificate.proofs.duals.is_cheap.Goals as goal

pub returns-clause-yes : goal.returns-clause-yes
returns-clause-yes c _ = omega (arith, ints)

pub returns-then-total-from-clause-no : goal.returns-then-total-from-clause-no
returns-then-total-from-clause-no c _ = omega (arith, ints)
