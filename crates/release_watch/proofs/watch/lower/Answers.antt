use Rattle.std.proofs.Common.{◌<◌, ◌∙◌, sym, subst, get_or}
use Rattle.std.proofs.lemmas.List.{length-set}
use Rattle.release_watch.proofs.Lowering.{still_there, one_lower}
use Rattle.release_watch.proofs.watch.lower.Goals as goal

pub overflow_sub-counts : goal.overflow_sub-counts
overflow_sub-counts c =
    still_there c.args.counts.now c.loop-place.counts c.args.places.now c.loop-place.place-index
    c.requires.ascending c.loop-place-test.true c.requires.counts c.loop-place.invariant.value

pub loop-place-preserved : goal.loop-place-preserved
loop-place-preserved c = record {
  len = length-set c.loop-place.counts _ _ ∙ c.loop-place.invariant.len;
  value = one_lower c.args.counts.now c.loop-place.counts c.args.places.now c.loop-place.place-index
      c.requires.ascending c.loop-place-test.true
      (subst (λ n. get_or c.args.places.now c.loop-place.place-index 0 < n)
      (sym c.loop-place.invariant.len) (c.requires.places c.loop-place.place-index 0
      c.loop-place-test.true))
      (still_there c.args.counts.now c.loop-place.counts c.args.places.now
      c.loop-place.place-index c.requires.ascending c.loop-place-test.true c.requires.counts
      c.loop-place.invariant.value) c.loop-place.invariant.value;
}
