use Rattle.std.proofs.Common.{◌≡◌, ◌∙◌, ◌<◌, [], ℕ, All, length, get_or, sym, ap, subst, arith, to_z, of_z, w64}
use Rattle.std.specs.Prelude.{pos, unsigned_abs}
use Rattle.std.specs.List.Sorted.{IsStrictlyIncreasing}
use Rattle.std.proofs.lemmas.Int.{ints}
use Rattle.graph_model.specs.Graph.{is_in}
use Rattle.dual_certificate.proofs.Crossings.{held_more, sum_low}
use Rattle.dual_certificate.proofs.sums.held_by_each.Goals as goal

pub add_at-requires-clause-rising : goal.add_at-requires-clause-rising
add_at-requires-clause-rising c =
    let count = c.set_count-at-end.ensures.count in
    subst IsStrictlyIncreasing (sym (c.members.ensures ([], pos 0))) (c.requires c.loop-at.at (
      [],
      pos 0,
    ) (omega (arith, count))).ascending

pub add_at-requires-clause-within : goal.add_at-requires-clause-within
add_at-requires-clause-within c =
    let count = c.set_count-at-end.ensures.count in
    subst (All (λ (i : ℕ). i < length c.loop-at.sums.items)) (sym (c.members.ensures ([], pos 0)))
    (subst (λ (n : ℕ). All (λ (i : ℕ). i < n) (get_or c.args.cert.now.sets c.loop-at.at (
      [],
      pos 0,
    )).0) (sym c.loop-at.invariant.count_is) (c.requires c.loop-at.at (
      [],
      pos 0,
    ) (omega (arith, count))).in_range)

pub loop-at-preserved : goal.loop-at-preserved
loop-at-preserved c =
    let sets = c.args.cert.now.sets in
    let at = c.loop-at.at in
    let old = c.loop-at.sums.items in
    let new = c.add_at.new.sums.items in
    let ms = c.members.result.now in
    let n = c.unsigned_abs.result in
    let count = c.set_count-at-end.ensures.count in
    let e = c.number.ensures ([], pos 0) in
    let number : to_z w64 (of_z w64 c.number.result) ≡ (get_or sets at ([], pos 0)).1 =
    omega (arith, ints, e) in
    let i = c.loop-at.invariant in
    record {
      count_is = c.add_at.ensures.count ∙ i.count_is;
      each = λ j. held_more sets at ([], pos 0) ms n j (get_or old j 0) (get_or new j 0)
          (omega (arith, count)) (c.members.ensures ([], pos 0)) (c.unsigned_abs.ensures.value
          ∙ ap unsigned_abs number) (i.each j) (c.add_at.ensures.value j);
      low = λ j. sum_low (is_in c.members.result.now j) n (get_or old j 0) (get_or new j 0) at
          (c.add_at.ensures.value j) (i.low j) c.unsigned_abs.ensures.bound;
    }
