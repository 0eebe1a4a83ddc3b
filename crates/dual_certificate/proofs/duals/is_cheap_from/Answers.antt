use Rattle.std.proofs.Common.{ℕ, ◌*◌, arith, subst}
use Rattle.std.specs.Prelude.{pos, ◌≤ℤ◌, ◌<ℤ◌}
use Rattle.matching_model.specs.Certificates.{pair_sum}
use Rattle.dist_search.specs.Tables.{dist_of}
use Rattle.dual_certificate.proofs.Crossings.{above_not_below}
use Rattle.dual_certificate.proofs.Each.{later_more}
use Rattle.dual_certificate.proofs.duals.is_cheap_from.Goals as goal

pub returns-then-not-are_near-clause-no : goal.returns-then-not-are_near-clause-no
returns-then-not-are_near-clause-no c _ all =
    let j = c.loop-j.j in
    let sum = pair_sum c.args.cert.now c.args.i j in
    let count = c.count-j-end.ensures in
    let low = c.loop-j.auto.j in
    above_not_below (pos (2 * dist_of c.args.table.now c.args.i j)) sum
    (subst (λ (d : ℕ). pos (2 * d) <ℤ sum) c.dist.ensures (c.are_near.ensures.no
    c.if-not-are_near.true)) (all j (omega (arith, low)) (omega (arith, count)))

pub loop-j-preserved : goal.loop-j-preserved
loop-j-preserved c =
    let i = c.args.i in
    later_more (λ j. pair_sum c.args.cert.now i j ≤ℤ pos (2 * dist_of c.args.table.now i j)) i
    c.loop-j.j c.loop-j.invariant
    (subst (λ (d : ℕ). pair_sum c.args.cert.now i c.loop-j.j ≤ℤ pos (2 * d)) c.dist.ensures
    (c.are_near.ensures.yes c.if-not-are_near.false))
