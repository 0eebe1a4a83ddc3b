use Rattle.std.proofs.Common.{get_or, refl, ◌∙◌, ◌<◌, subst, sym}
use Rattle.std.proofs.lemmas.List.{length-set}
use Rattle.boundary_fold.proofs.Tabled.{noted_more}
use Rattle.boundary_fold.proofs.located.note_places.Goals as goal

pub loop-place-preserved : goal.loop-place-preserved
loop-place-preserved c =
    let ds = c.args.detectors.now in
    let k = c.loop-place.place in
    let old = c.loop-place.table.items in
    record {
      long = length-set old (get_or ds k 0) k ∙ c.loop-place.invariant.long;
      noted = noted_more ds old _ k c.requires.rising c.loop-place-test.true
          (subst (λ n. get_or ds k 0 < n) (sym c.loop-place.invariant.long)
          (c.requires.below k 0 c.loop-place-test.true))
          refl c.loop-place.invariant.noted;
    }
