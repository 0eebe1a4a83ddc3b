use Rattle.std.proofs.Common.{arith}
use Rattle.boundary_fold.proofs.Tabled.{first_test, past_test}
use Rattle.boundary_fold.proofs.division.has_at.Goals as goal

pub returns-then-place-numbers : goal.returns-then-place-numbers
returns-then-place-numbers c =
    first_test c.args.numbers.now c.args.number c.args.place c.requires.rising c.requires.place
    c.if-place-numbers.true

pub returns-else-place-numbers : goal.returns-else-place-numbers
returns-else-place-numbers c =
    past_test c.args.numbers.now c.args.number c.args.place c.requires.rising c.requires.place
    (λ l. omega (arith, l, c.if-place-numbers.false))
