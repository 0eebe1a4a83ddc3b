use Rattle.std.proofs.Common.{◌≡◌, [], get_or, arith, to_z, of_z, w64}
use Rattle.std.specs.Prelude.{pos}
use Rattle.std.proofs.lemmas.Int.{ints}
use Rattle.dual_certificate.proofs.Each.{odd_set}
use Rattle.dual_certificate.proofs.sets.are_odd_sets.Goals as goal

pub returns-then-not-is_odd_set-clause-no : goal.returns-then-not-is_odd_set-clause-no
returns-then-not-is_odd_set-clause-no c _ all =
    let sets = c.args.cert.now.sets in
    let s = get_or sets c.loop-at.at ([], pos 0) in
    let count = c.set_count-at-end.ensures.count in
    let e = c.number.ensures ([], pos 0) in
    let number : to_z w64 (of_z w64 c.number.result) ≡ s.1 = omega (arith, ints, e) in
    c.is_odd_set.ensures.no c.if-not-is_odd_set.true (odd_set c.args.count s c.members.result.now
    (to_z w64 (of_z w64 c.number.result)) (c.members.ensures ([], pos 0)) number
    (all c.loop-at.at ([], pos 0) (omega (arith, count))))
