use Rattle.std.proofs.Common.{arith}
use Rattle.dual_certificate.proofs.Crossings.{shared_low}
use Rattle.dual_certificate.proofs.sums.crossing_of.Goals as goal

pub overflow_sub-result : goal.overflow_sub-result
overflow_sub-result c =
    let k = shared_low c.args.i c.args.j c.args.cert.now.sets in
    let a = c.requires.held_are.each c.args.i in
    let b = c.requires.held_are.each c.args.j in
    let s = c.requires.shared_are.each c.args.j in
    omega (arith, k.0, k.1, a, b, s)
