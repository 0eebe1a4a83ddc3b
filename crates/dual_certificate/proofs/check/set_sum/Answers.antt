use Rattle.std.proofs.Common.{arith, List, [], ℕ}
use Rattle.std.specs.Prelude.{ℤ, pos, ◌+ℤ◌}
use Rattle.std.proofs.lemmas.Int.{ints}
use Rattle.std.proofs.lemmas.List.Sums.{fold_more}
use Rattle.dual_certificate.proofs.check.set_sum.Goals as goal

pub loop-at-preserved : goal.loop-at-preserved
loop-at-preserved c = record {
  so_far =
      let count = c.set_count-at-end.ensures.count in
      let step = fold_more (λ (s : ℤ) (x : List ℕ × ℤ). s +ℤ x.1) (pos 0) c.args.cert.now.sets
      c.loop-at.at ([], pos 0) (omega (arith, count)) in
      let read = c.number.ensures ([], pos 0) in
      omega (arith, ints, step, read);
  low = omega (arith, ints);
  high = omega (arith, ints);
}
